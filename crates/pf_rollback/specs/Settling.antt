-- What a settle of a peer returns and leaves, and how it calls a crew.
use Rattle.std.specs.Prelude.{◌≡◌, ℕ, zero, suc, ◌+◌, ◌<◌, List, Result, Ok, Err, IfOk, OnErr, OnOk}
use Rattle.pf_commands.specs.Merge.{payloads_at}
use Rattle.pf_step.specs.Split.{Island}
use Rattle.pf_step.specs.declared.crew.CrewError.{CrewError}
use Rattle.pf_step.specs.declared.crew.StepError.{StepError}
use Rattle.pf_step.specs.Activity.{islands_of_tick}
use Rattle.pf_step.specs.Stepping.{FailsBy}
use Rattle.pf_rollback.specs.Core.{HasSettled, PeerCore, missing_count}
use Rattle.pf_rollback.specs.Kept.{settled_tick}
use Rattle.pf_rollback.specs.Peer.{world_of}

-- what a settle returns: the reached tick, with each missing tick settled; or an error, with fewer
-- ticks settled
pub record IsSettle {E : Type 0} (old new : PeerCore) (result : Result ℕ E) : Type 0 where
  pub answer : IfOk result (λ tick. tick ≡ old.peer.reached)
  pub settled : OnOk result (settled_tick new.kept ≡ old.peer.reached)
  pub ok : OnOk result (HasSettled (missing_count old) old new)
  pub err : OnErr result ((more : ℕ) × (more < missing_count old) × HasSettled more old new)

-- the islands of a tick of the simulation of a peer's commands
abbrev pub islands_at : PeerCore → ℕ → List Island
islands_at core tick =
    islands_of_tick core.scene (world_of core.scene core.peer tick)
    (payloads_at core.peer.commands tick)

-- what a crew says of so many calls, one for each tick from the peer's settled tick on, in their
-- order, and each with the islands of its tick; a crew that allows it is not called in each tick
unfoldable pub AreCalls : {A : Type 0} → (A → List Island → A → Type 0)
    → PeerCore → ℕ → A → A → Type 0
AreCalls call core zero first last = first ≡ last
AreCalls {A} call core (suc n) first last =
    (before : A) × AreCalls call core n first before
    × call before (islands_at core (settled_tick core.kept + n)) last

-- why a settle with a crew failed: after so many settled ticks, for which what the crew says of
-- their calls holds, the step of the next tick failed
abbrev pub FailsAfter : {A : Type 0} → (A → List Island → A → Type 0)
    → (A → List Island → CrewError → A → Type 0)
    → PeerCore → PeerCore → A → StepError → A → Type 0
FailsAfter {A} call may_fail old new first error last =
    (more : ℕ) × (more < missing_count old) × HasSettled more old new
    × ((before : A) × AreCalls call old more first before
    × FailsBy may_fail before (islands_at old (settled_tick old.kept + more)) error last)

-- what a settle does with its crew: what the crew says of a call holds for each missing tick; or
-- the settle fails
abbrev pub CallsCrewByTick : {A B : Type 0} → (A → List Island → A → Type 0)
    → (A → List Island → CrewError → A → Type 0) → PeerCore → PeerCore → A → A
    → Result B StepError → Type 0
CallsCrewByTick call may_fail old new first last (Ok tick) =
    AreCalls call old (missing_count old) first last
CallsCrewByTick call may_fail old new first last (Err error) =
    FailsAfter call may_fail old new first error last
