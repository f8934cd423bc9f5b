-- What a contract sees of a crew of threads, and with which errors it fails.
use Rattle.std.specs.Prelude.{◌≡◌, ℕ, ⊤, Bool, true, false, List, replicate, if◌then◌else◌}
use Rattle.pf_step.specs.Meter.{saturating_sum}
use Rattle.pf_pool.specs.declared.error.PoolError.{PoolError}
use Rattle.pf_pool.specs.declared.error.PoolError.TheVariants as pools
use Rattle.pf_pool.specs.Pool.{HasAllWorkers}
use Rattle.pf_step.specs.declared.crew.CrewError.{CrewError}
use Rattle.pf_step.specs.declared.crew.CrewError.TheVariants.{OutOfMemory, NoThread, GateShut, CrewLost}

-- the turn after a solve; the last turn stays
abbrev pub next_turn : ℕ → ℕ
next_turn turn = saturating_sum turn 1

-- how many workers a crew has, and the turn of its next solve
pub record ScopedCrew : Type 0 where
  pub workers : ℕ
  pub turn : ℕ

-- an error that a solve by scoped workers may return: a gate that lets everybody through is never
-- shut, and no worker is lost
abbrev pub IsScopedError : Bool → CrewError → Type 0
IsScopedError always OutOfMemory = ⊤
IsScopedError always NoThread = ⊤
IsScopedError always GateShut = always ≡ false
IsScopedError always CrewLost = ⊥

-- for each worker of a crew whether it was not dismissed, the turn of the next solve, and whether
-- the crew is lost
pub record StandingCrew : Type 0 where
  pub workers : List Bool
  pub turn : ℕ
  pub lost : Bool

abbrev pub new_crew : ℕ → StandingCrew
new_crew workers = record { workers = replicate workers true; turn = 0; lost = false }

-- all workers of a crew are there: none was dismissed
abbrev pub CrewHasAllWorkers : StandingCrew → Type 0
CrewHasAllWorkers c = HasAllWorkers c.workers

-- the error of a crew whose pool failed
abbrev pub crew_error : PoolError → CrewError
crew_error pools.OutOfMemory = OutOfMemory
crew_error pools.NoThread = NoThread
crew_error pools.WorkerLost = CrewLost

-- an error with which a crew may fail to start
abbrev pub IsStartFailure : CrewError → Type 0
IsStartFailure OutOfMemory = ⊤
IsStartFailure NoThread = ⊤
IsStartFailure GateShut = ⊥
IsStartFailure CrewLost = ⊥

-- an error that a solve by standing workers may return: a gate that lets everybody through is never
-- shut, and no thread is started
abbrev pub IsStandingError : Bool → CrewError → Type 0
IsStandingError always OutOfMemory = ⊤
IsStandingError always NoThread = ⊥
IsStandingError always GateShut = always ≡ false
IsStandingError always CrewLost = ⊤

-- a crew after a solve that found a worker lost: that turn is the last one counted, and the crew is
-- lost for good
abbrev pub lost_after : StandingCrew → StandingCrew
lost_after c = if c.lost then c else record c { turn = next_turn c.turn; lost = true }

-- with which error a solve fails, and the crew after it
abbrev pub FailsStanding : Bool → StandingCrew → CrewError → StandingCrew → Type 0
FailsStanding always before CrewLost after = after ≡ lost_after before
FailsStanding always before error after =
    (before.lost ≡ false) × IsStandingError always error
    × (after ≡ record before { turn = next_turn before.turn })
