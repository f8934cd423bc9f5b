-- Words that are parsed by one of their errors are parsed by the list of them.
use Rattle.std.proofs.Common.{ℕ, false, rules, subst, sym, refl, ap, codes, ◌≡◌, ◌⊎◌, ◌∙◌, inl, List, [], ◌∷◌, Option, None, Result, Ok, Err}
use Rattle.std.proofs.lemmas.Bool.{true≢false}
use Rattle.clap.specs.Words.{IsAmong, Kinds, Row, Text, fault_of, subcommand_of}
use Rattle.clap.proofs.OnLiterals.{clap_on_literals}
use Rattle.clap.specs.declared.error.kind.ErrorKind.{ErrorKind}
use Rattle.clap.specs.declared.error.kind.ErrorKind.TheVariants as kind
use Rattle.pf_console.specs.declared.error.ProgramError.{ProgramError}
use Rattle.pf_console.specs.declared.error.ProgramError.TheVariants as errors
use Rattle.pf_program.specs.Options.{ParsesAs, RunsUnlessMemory, command_line, digits_in, crew_size_in, is_session}
use Rattle.pf_console.specs.declared.request.Request.{Request}
use Rattle.pf_console.specs.declared.request.Request.TheVariants.{Run, Session, Frame, Help, Version}

module _ (fault : ErrorKind) (others : Kinds) (entered : Option (Text × List Row)) where
  pub parses_among : (r : Result Request ProgramError) → ParsesAs (fault ∷ []) None r
      → (fault ≡ kind.OutOfMemory) ⊎ IsAmong fault others → ParsesAs others entered r
  parses_among (Ok (Run workers)) h e = search rules
  parses_among (Ok (Session workers)) h e = search rules
  parses_among (Ok (Frame digits)) h e = search rules
  parses_among (Ok (Help text)) h e = search rules
  parses_among (Ok Version) h e = search rules
  parses_among (Err (errors.Words text)) h e = search rules
  parses_among (Err errors.Memory) h e = search rules
  parses_among (Err (errors.Line number name)) h e = elim h [ ]
  parses_among (Err (errors.Frame name)) h e = elim h [ ]
  parses_among (Err (errors.Session refusal)) h e = elim h [ ]
  parses_among (Err (errors.Crew error)) h e = elim h [ ]
  parses_among (Err errors.Read) h e = elim h [ ]
  parses_among (Err errors.Write) h e = elim h [ ]

-- whatever the program is called, the word `run` alone is valid
run_is_fit : (program : Text) → fault_of command_line (program ∷ codes "run" ∷ []) ≡ []
unfolding clap_on_literals
run_is_fit program = refl

-- and does not enter `frame`
run_is_no_frame : (program : Text) → digits_in (subcommand_of command_line (program ∷ codes "run" ∷ [])) ≡ None
unfolding clap_on_literals
run_is_no_frame program = refl

-- nor `session`
run_is_no_session : (program : Text) → is_session (subcommand_of command_line (program ∷ codes "run" ∷ [])) ≡ false
unfolding clap_on_literals
run_is_no_session program = refl

-- and asks for no crew
run_has_no_crew : (program : Text) → crew_size_in (codes "run") (subcommand_of command_line (program ∷ codes "run" ∷ [])) ≡ None
unfolding clap_on_literals
run_has_no_crew program = refl

without_error : (entered : Option (Text × List Row)) → digits_in entered ≡ None → is_session entered ≡ false → crew_size_in (codes "run") entered ≡ None → (r : Result Request ProgramError) → ParsesAs [] entered r
    → RunsUnlessMemory r
without_error entered none other alone (Ok (Run workers)) h = inl (ap (λ (o : Option ℕ). Ok (Run o)) (h.1.2 ∙ alone))
without_error entered none other alone (Ok (Session workers)) h = absurd (true≢false (sym h.1.0 ∙ other))
without_error entered none other alone (Ok (Frame digits)) h = search rules
without_error entered none other alone (Ok (Help text)) h = search rules
without_error entered none other alone (Ok Version) h = search rules
without_error entered none other alone (Err (errors.Words text)) h = search rules
without_error entered none other alone (Err errors.Memory) h = search rules
without_error entered none other alone (Err (errors.Line number name)) h = elim h [ ]
without_error entered none other alone (Err (errors.Frame name)) h = elim h [ ]
without_error entered none other alone (Err (errors.Session refusal)) h = elim h [ ]
without_error entered none other alone (Err (errors.Crew error)) h = elim h [ ]
without_error entered none other alone (Err errors.Read) h = elim h [ ]
without_error entered none other alone (Err errors.Write) h = elim h [ ]

pub run_alone : (program : Text) (r : Result Request ProgramError)
    → ParsesAs (fault_of command_line (program ∷ codes "run" ∷ [])) (subcommand_of command_line (program ∷ codes "run" ∷ [])) r
    → RunsUnlessMemory r
run_alone program r h =
    without_error (subcommand_of command_line (program ∷ codes "run" ∷ [])) (run_is_no_frame program)
    (run_is_no_session program) (run_has_no_crew program) r
    (subst (λ faults. ParsesAs faults (subcommand_of command_line (program ∷ codes "run" ∷ [])) r) (run_is_fit program) h)
