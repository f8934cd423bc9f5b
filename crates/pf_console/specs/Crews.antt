-- What errors of a crew mean for a text.
use Rattle.std.specs.Prelude.{◌≡◌, ℕ, IsSome, Option, Some, None, Result, Err, List}
use Rattle.pf_step.specs.Split.{Island}
use Rattle.pf_step.specs.declared.crew.CrewError.{CrewError}
use Rattle.pf_step.specs.declared.crew.CrewError.TheVariants.{OutOfMemory, NoThread, GateShut, CrewLost}
use Rattle.pf_events.specs.Crews.{CanFail}
use Rattle.pf_console.specs.declared.error.ProgramError.{ProgramError}
use Rattle.pf_console.specs.declared.error.ProgramError.TheVariants.{Crew, Memory}

-- why a valid line had no reply, by the error with which the crew has failed, if it has
abbrev pub error_of_missing_reply : Option CrewError → ProgramError
error_of_missing_reply (Some error) = Crew error
error_of_missing_reply None = Memory

-- an error of a crew is returned only where a call of it may fail with that error
abbrev pub FailsByCrew : {A : Type 0} → (A → List Island → CrewError → A → Type 0)
    → Result (Unit {0}) ProgramError → Type 0
FailsByCrew may_fail result =
    (error : CrewError) → result ≡ Err (Crew error) → CanFail may_fail error

-- An error of threads with which a session may end, whose peers have crews of so many workers or
-- none. A peer that is out of memory is reported as `Memory`, and no gate is shut.
abbrev pub IsCrewErrorOfSession : Option ℕ → CrewError → Type 0
IsCrewErrorOfSession crew NoThread = Unit {0}
IsCrewErrorOfSession crew CrewLost = IsSome crew
IsCrewErrorOfSession crew OutOfMemory = ⊥
IsCrewErrorOfSession crew GateShut = ⊥

-- an error of threads is returned only where a session may end with it
abbrev pub FailsByThreads : Option ℕ → Result (Unit {0}) ProgramError → Type 0
FailsByThreads crew result =
    (error : CrewError) → result ≡ Err (Crew error) → IsCrewErrorOfSession crew error
