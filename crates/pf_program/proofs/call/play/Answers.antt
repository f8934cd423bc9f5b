use Rattle.std.proofs.Common.{◌≡◌, ◌∙◌, ap, sym, refl, Ok, Err, inl, inr, map, subst}
use Rattle.std.specs.Prelude.{option_map}
use Rattle.std.proofs.lemmas.Result.{err_from_is_err_and}
use Rattle.pf_console.specs.declared.error.ProgramError.TheVariants.{Crew}
use Rattle.clap.specs.Words.{fault_of, subcommand_of}
use Rattle.pf_program.specs.Options.{ParsesAs, command_line}
use Rattle.pf_program.proofs.Crews.{err_same, fails_as, names_alone, never_shut, started_not_shut, wants, words_name_none}
use Rattle.pf_manifold.specs.declared.parallel.OneThread.{OneThread}
use Rattle.pf_workers.specs.Crew.{FailsStanding}
use Rattle.pf_program.specs.Program.{IsCrewStartError}
use Rattle.pf_program.proofs.call.play.Goals as goal

pub returns-in_err-words-clause-plays : goal.returns-in_err-words-clause-plays
returns-in_err-words-clause-plays g c =
    let error = err_from_is_err_and c.from_residual.result c.from_residual.ensures.1 in
    let fault = c.in_err-words.field-0.0 in
    let outcome : c.from_residual.result ≡ Err fault = rw (error.1, error.2) refl in
    record {
      asked = Err fault;
      asks = rw c.in_err-words.was refl;
      does = record { outcome_is = outcome; left_is = refl; after_is = refl };
      crew = λ name is.
          let same : fault ≡ Crew name = cc in
          words_name_none c.args.words c.requires.words fault c.in_err-words.was name same;
    }

pub returns-clause-plays : goal.returns-clause-plays
returns-clause-plays g c =
    let text = g.S.AsStr.text in
    record {
      asked = Ok c.in_ok-request.request;
      asks = rw c.in_ok-words.was (subst (λ l. ParsesAs (fault_of command_line (map text l))
          (subcommand_of command_line (map text l)) (Ok c.in_ok-request.request))
          c.as_slice.ensures.value c.in_ok-request.ensures.parses);
      does = inl c.perform-outcome.ensures.done;
      crew = λ error is.
          let wanted = wants c.in_ok-request.request _ (sym (ap (option_map (λ w. w.crew)) c.in-Some.is) ∙ c.in_ok-workers.ensures.crew) in
          let can = fails_as _ c.perform-outcome.result c.in_ok-request.request wanted c.perform-outcome.ensures.crew error is in
          let failed = subst (λ always. FailsStanding always can.0 error can.2) c.requires.gate can.3 in
          inl (wanted, never_shut can.0 can.2 error failed);
    }

pub returns-in_err-workers-clause-plays : goal.returns-in_err-workers-clause-plays
returns-in_err-workers-clause-plays g c =
    let text = g.S.AsStr.text in
    let error = err_from_is_err_and c.from_residual-in_err-workers.result c.from_residual-in_err-workers.ensures.1 in
    let fault = c.in_err-workers.field-0.0 in
    let outcome : c.from_residual-in_err-workers.result ≡ Err fault = rw (error.1, error.2) refl in
    let start : IsCrewStartError c.in_ok-request.request fault = c.in_err-workers.ensures.fault in
    record {
      asked = Ok c.in_ok-request.request;
      asks = rw c.in_ok-words.was (subst (λ l. ParsesAs (fault_of command_line (map text l))
          (subcommand_of command_line (map text l)) (Ok c.in_ok-request.request))
          c.as_slice.ensures.value c.in_ok-request.ensures.parses);
      does = inr (fault, start, record { outcome_is = outcome; left_is = refl; after_is = refl });
      crew = λ name is. inl (start.0, started_not_shut c.in_ok-request.request fault start name (sym (err_same outcome is)));
    }

pub returns-in_default-clause-plays : goal.returns-in_default-clause-plays
returns-in_default-clause-plays g c =
    let text = g.S.AsStr.text in
    record {
      asked = Ok c.in_ok-request.request;
      asks = rw c.in_ok-words.was (subst (λ l. ParsesAs (fault_of command_line (map text l))
          (subcommand_of command_line (map text l)) (Ok c.in_ok-request.request))
          c.as_slice.ensures.value c.in_ok-request.ensures.parses);
      does = inl c.perform.ensures.done;
      crew = names_alone {A = OneThread} (λ _ _ _ _. ⊥) c.perform.result c.in_ok-request.request (λ error can. can.3) c.perform.ensures.crew;
    }
