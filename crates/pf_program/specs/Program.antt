-- What the program does, from the words of its call to its status.
use Rattle.std.specs.Prelude.{◌≡◌, ◌≢◌, ◌⊎◌, ℕ, List, map, Option, None, Some, Result, Ok, Err, Vec}
use Rattle.clap.specs.Words.{fault_of, subcommand_of}
use Rattle.pf_text.specs.Streams.{Streams, IfExposed}
use Rattle.pf_step.specs.declared.crew.CrewError.{CrewError}
use Rattle.pf_step.specs.declared.crew.CrewError.TheVariants.{GateShut}
use Rattle.pf_workers.specs.Crew.{IsStartFailure, StandingCrew, new_crew}
use Rattle.pf_console.specs.declared.request.Request.{Request}
use Rattle.pf_console.specs.declared.request.Request.TheVariants.{Run, Session}
use Rattle.pf_console.specs.declared.error.ProgramError.{ProgramError}
use Rattle.pf_console.specs.declared.error.ProgramError.TheVariants.{Crew}
use Rattle.pf_console.specs.Crews.{IsCrewErrorOfSession}
use Rattle.pf_console.specs.Report.{outcome_status, outcome_text}
use Rattle.pf_console.specs.Request.{Performs}
use Rattle.pf_program.specs.Options.{ParsesAs, command_line}

-- what the words of a call, with these texts, ask for; words that could not be read ask for nothing
-- but their error
abbrev pub Asks : {S A : Type 0} → (S → List ℕ) → Result (Vec S A) ProgramError
    → Result Request ProgramError → Type 0
Asks text (Ok words) asked =
    let them = map text words.items in
    ParsesAs (fault_of command_line them) (subcommand_of command_line them) asked
Asks text (Err fault) asked = asked ≡ Err fault

-- a request asks for a crew of so many workers
abbrev pub WantsCrew : Request → Type 0
WantsCrew request = (size : ℕ) × (request ≡ Run (Some size))

-- the crew that a request asks for, if it asks for one
abbrev pub crew_for : Request → Option StandingCrew
crew_for (Run (Some size)) = Some (new_crew size)
crew_for request = None

-- the error with which the crew that a request asks for could not be started
abbrev pub IsCrewStartError : Request → ProgramError → Type 0
IsCrewStartError request fault =
    WantsCrew request × ((error : CrewError) × (fault ≡ Crew error) × IsStartFailure error)

-- an error of the crew that a request asks for, whose gates are open, or of the threads of a
-- session
abbrev pub IsCrewError : Request → CrewError → Type 0
IsCrewError request error =
    (WantsCrew request × (error ≢ GateShut))
    ⊎ ((crew : Option ℕ) × (request ≡ Session crew) × IsCrewErrorOfSession crew error)

-- an error is the outcome, and nothing was read or written
pub record Fails (fault : ProgramError) (s : Streams) (outcome : Result (Unit {0}) ProgramError)
    : Type 0 where
  pub outcome_is : outcome ≡ Err fault
  pub left_is : s.left ≡ s.unread
  pub after_is : s.after ≡ s.before

-- A request was performed, where reader and writer expose their bytes, or else the crew that it
-- asks for could not be started. An error of what is asked for is the outcome.
abbrev pub Does : Result Request ProgramError → Streams → Result (Unit {0}) ProgramError → Type 0
Does (Ok request) s outcome =
    IfExposed s (λ transfer. Performs request transfer outcome)
    ⊎ ((fault : ProgramError) × IsCrewStartError request fault × Fails fault s outcome)
Does (Err fault) s outcome = Fails fault s outcome

-- an error of a crew comes only where a request asks for one or for a session, and never from a
-- gate
abbrev pub NamesCrew : Result Request ProgramError → Result (Unit {0}) ProgramError → Type 0
NamesCrew (Ok request) outcome =
    (error : CrewError) → outcome ≡ Err (Crew error) → IsCrewError request error
NamesCrew (Err fault) outcome = (error : CrewError) → outcome ≢ Err (Crew error)

-- the outcome of a call: one thing that its words ask for was done
pub record Plays {S A : Type 0} (text : S → List ℕ) (words : Result (Vec S A) ProgramError)
    (s : Streams) (outcome : Result (Unit {0}) ProgramError) : Type 0 where
  pub asked : Result Request ProgramError
  pub asks : Asks text words asked
  pub does : Does asked s outcome
  pub crew : NamesCrew asked outcome

-- how a call ends: it has one outcome, whose failures were counted, whose text was reported and
-- whose status is returned
pub record Ends (Played Counted : Result (Unit {0}) ProgramError → Type 0)
    (Reported : List ℕ → Type 0) (status : ℕ)
    : Type 0 where
  pub outcome : Result (Unit {0}) ProgramError
  pub played : Played outcome
  pub counted : Counted outcome
  pub reported : Reported (outcome_text outcome)
  pub ends : status ≡ outcome_status outcome
