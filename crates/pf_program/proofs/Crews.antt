-- Which errors of a crew a call can end with.
use Rattle.std.proofs.Common.{◌≡◌, ◌≢◌, List, true, None, Some, Result, Ok, Err, ap, refl, inr, subst, ◌∙◌}
use Rattle.std.specs.Prelude.{is_some}
use Rattle.std.proofs.lemmas.Bool.{true≢false}
use Rattle.pf_step.specs.declared.crew.CrewError.TheVariants.{OutOfMemory, NoThread, GateShut, CrewLost}
use Rattle.pf_workers.specs.Crew.{FailsStanding, IsStartFailure, StandingCrew}
use Rattle.pf_console.specs.declared.request.Request.{Request}
use Rattle.pf_console.specs.declared.request.Request.TheVariants.{Help, Run, Version}
use Rattle.pf_console.specs.declared.request.Request.TheVariants as requests
use Rattle.pf_console.specs.declared.error.ProgramError.TheVariants as errors
use Rattle.pf_program.specs.Program.{IsCrewError, IsCrewStartError, WantsCrew, crew_for}
use Rattle.pf_step.specs.declared.crew.CrewError.{CrewError}
use Rattle.pf_console.specs.declared.error.ProgramError.{ProgramError}
use Rattle.pf_console.specs.declared.error.ProgramError.TheVariants.{Words, Line, Frame, Memory, Crew, Read, Write}
use Rattle.pf_program.specs.Options.{FailsByWordsOrMemory, HasCrewSize}
use Rattle.pf_console.specs.Crews.{FailsByCrew}
use Rattle.pf_console.specs.Request.{CanStart, FailsByThreadsOf}
use Rattle.pf_step.specs.Split.{Island}
use Rattle.pf_events.specs.Crews.{CanFail}

-- words that could not be read name no crew
pub words_name_none : {X : Type 0} (words : Result X ProgramError) → FailsByWordsOrMemory words → (fault : ProgramError) → words ≡ Err fault
    → (error : CrewError) → fault ≢ Crew error
words_name_none (Ok read) h fault is error = λ e. absurd cc
words_name_none (Err (Words text)) h fault is error = λ e. absurd cc
words_name_none (Err (Line number name)) h fault is error = elim h [ ]
words_name_none (Err (Frame name)) h fault is error = elim h [ ]
words_name_none (Err (errors.Session refusal)) h fault is error = elim h [ ]
words_name_none (Err Memory) h fault is error = λ e. absurd cc
words_name_none (Err (Crew name)) h fault is error = elim h [ ]
words_name_none (Err Read) h fault is error = elim h [ ]
words_name_none (Err Write) h fault is error = elim h [ ]

-- a crew is there only where a request asks for one
pub wants : (request : Request) (crew : StandingCrew) → Some crew ≡ crew_for request → WantsCrew request
wants (Run (Some size)) crew is = (size, refl)
wants (Run None) crew is = absurd (true≢false (ap is_some is))
wants (requests.Session workers) crew is = absurd (true≢false (ap is_some is))
wants (requests.Frame digits) crew is = absurd (true≢false (ap is_some is))
wants (Help text) crew is = absurd (true≢false (ap is_some is))
wants Version crew is = absurd (true≢false (ap is_some is))

-- a crew that could not be started did not fail by its gate
pub start_not_shut : (error : CrewError) → IsStartFailure error → error ≢ GateShut
start_not_shut OutOfMemory is = λ e. absurd cc
start_not_shut NoThread is = λ e. absurd cc
start_not_shut GateShut is = absurd is
start_not_shut CrewLost is = absurd is

pub err_same : {r : Result (Unit {0}) ProgramError} {f g : ProgramError} → r ≡ Err f → r ≡ Err g → g ≡ f
err_same first second = cc

pub started_not_shut : (request : Request) (fault : ProgramError) → IsCrewStartError request fault → (error : CrewError) → fault ≡ Crew error → error ≢ GateShut
started_not_shut request fault start error is =
    let same : start.1.0 ≡ error = by start.1.1 is in
    λ shut. start_not_shut start.1.0 start.1.2 (same ∙ shut)
  where
    by : {a b : CrewError} → fault ≡ Crew a → fault ≡ Crew b → a ≡ b
    by first second = cc

-- a standing crew whose gate is open never fails by it
pub never_shut : (before after : StandingCrew) (error : CrewError) → FailsStanding true before error after → error ≢ GateShut
never_shut before after OutOfMemory fails = λ e. absurd cc
never_shut before after NoThread fails = λ e. absurd cc
never_shut before after GateShut fails = λ e. true≢false fails.1
never_shut before after CrewLost fails = λ e. absurd cc

-- a session whose crews have a size can start
pub can_start : (request : Request) → HasCrewSize request → CanStart request
can_start (requests.Session workers) h = h
can_start (Run workers) h = tt
can_start (requests.Frame digits) h = tt
can_start (Help text) h = tt
can_start Version h = tt

module _ {A : Type 0} (may_fail : A → List Island → CrewError → A → Type 0) (outcome : Result (Unit {0}) ProgramError) where
  -- without a crew only a session has an error of threads
  pub names_alone : (request : Request) → ((error : CrewError) → CanFail may_fail error → ⊥) → FailsByThreadsOf may_fail request outcome
      → (error : CrewError) → outcome ≡ Err (Crew error) → IsCrewError request error
  names_alone (requests.Session workers) never fails error is = inr (workers, refl, fails error is)
  names_alone (Run workers) never fails error is = absurd (never error (fails error is))
  names_alone (requests.Frame digits) never fails error is = absurd (never error (fails error is))
  names_alone (Help text) never fails error is = absurd (never error (fails error is))
  names_alone Version never fails error is = absurd (never error (fails error is))

  -- the crew that a request asks for fails as its clause says
  pub fails_as : (request : Request) → WantsCrew request → FailsByThreadsOf may_fail request outcome → FailsByCrew may_fail outcome
  fails_as request wanted fails = subst (λ (r : Request). FailsByThreadsOf may_fail r outcome) wanted.1 fails
