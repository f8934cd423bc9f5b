-- A call that reads nothing counts no failure of a reader, and has no error of a crew.
use Rattle.std.proofs.Common.{ℕ, List, Result, Ok, Err, refl, subst}
use Rattle.pf_console.specs.declared.error.ProgramError.{ProgramError}
use Rattle.pf_console.specs.declared.error.ProgramError.TheVariants.{Words, Line, Frame, Session, Memory, Crew, Read, Write}
use Rattle.pf_step.specs.Split.{Island}
use Rattle.pf_step.specs.declared.crew.CrewError.{CrewError}
use Rattle.pf_console.specs.Crews.{FailsByCrew}
use Rattle.pf_console.specs.Text.{CountsReading, ReadsNothing}

pub counts_nothing : (failures : ℕ) (result : Result (Unit {0}) ProgramError) → ReadsNothing result → CountsReading failures result failures
counts_nothing failures (Ok done) h = refl
counts_nothing failures (Err (Words text)) h = refl
counts_nothing failures (Err (Line number fault)) h = refl
counts_nothing failures (Err (Frame fault)) h = refl
counts_nothing failures (Err (Session refusal)) h = refl
counts_nothing failures (Err Memory) h = refl
counts_nothing failures (Err Write) h = refl
counts_nothing failures (Err (Crew error)) h = elim h [ ]
counts_nothing failures (Err Read) h = elim h [ ]

pub fails_by_no_crew : {A : Type 0} (may_fail : A → List Island → CrewError → A → Type 0) (result : Result (Unit {0}) ProgramError)
    → ReadsNothing result → FailsByCrew may_fail result
fails_by_no_crew may_fail result h = λ error is. elim (subst ReadsNothing is h) [ ]
