use Rattle.std.proofs.Common.{ap, subst, refl, true, ◌≡◌, ◌∙◌, [], map, Ok}
use Rattle.clap.specs.Words.{App, HasKind, app_of, fault_of, is_simple, is_simple_and_free, subcommand_of}
use Rattle.pf_program.specs.Options.{ParsesAs, AsksFor, command_line}
use Rattle.pf_program.proofs.Entered.{request_parses}
use Rattle.pf_program.proofs.Faults.{parses_among, run_alone}
use Rattle.pf_program.proofs.command_line.options.Goals as goal

is_fit : is_simple_and_free command_line ≡ true
is_fit = refl

is_plain : is_simple command_line ≡ true
is_plain = refl

pub returns-in-Ok : goal.returns-in-Ok
returns-in-Ok g c =
    let words = map g.S.AsStr.text c.args.words.now in
    let same : app_of c.in_ok-command.field-0 ≡ command_line = c.in_ok-command.ensures in
    let fit = subst (λ app. fault_of app words ≡ []) same (c.in-Ok.ensures.kinds (ap is_simple_and_free same ∙ is_fit)) in
    let entered = (c.in-Ok.ensures.matches (ap is_simple same ∙ is_plain)).1 ∙ ap (λ (a : App). subcommand_of a words) same in
    let parsed = request_parses (fault_of command_line words) (subcommand_of command_line words) c.request_for.result fit (subst (λ e. AsksFor e c.request_for.result) entered c.request_for.ensures.asked) in
    record {
      parses = parsed;
      crew_size = c.request_for.ensures.crew_size;
      runs = λ program e. run_alone program (Ok c.request_for.result)
          (subst (λ them. ParsesAs (fault_of command_line them) (subcommand_of command_line them) (Ok c.request_for.result)) e parsed);
    }

pub returns-in-Err : goal.returns-in-Err
returns-in-Err g c =
    let same : app_of c.in_ok-command.field-0 ≡ command_line = c.in_ok-command.ensures in
    let words = map g.S.AsStr.text c.args.words.now in
    let parsed = parses_among _ _ (subcommand_of command_line words) c.request_of.result c.request_of.ensures.parses
    (subst (λ app. HasKind (fault_of app words) c.in-Err.error) same
    (c.in-Err.ensures.kinds (ap is_simple_and_free same ∙ is_fit))) in
    record {
      parses = parsed;
      crew_size = c.request_of.ensures.crew_size;
      runs = λ program e. run_alone program c.request_of.result
          (subst (λ them. ParsesAs (fault_of command_line them) (subcommand_of command_line them) c.request_of.result) e parsed);
    }
