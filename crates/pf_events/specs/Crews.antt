-- How the reply to an event uses a crew, and with which errors a crew may fail.
use Rattle.std.specs.Prelude.{◌≡◌, ℕ, List, Result, Ok, Err}
use Rattle.pf_step.specs.Split.{Island}
use Rattle.pf_step.specs.declared.crew.CrewError.{CrewError}
use Rattle.pf_step.specs.declared.crew.StepError.{StepError}
use Rattle.pf_step.specs.declared.crew.StepError.TheVariants.{OutOfMemory}
use Rattle.pf_rollback.specs.Core.{PeerCore, missing_count}
use Rattle.pf_rollback.specs.Settling.{AreCalls, FailsAfter}
use Rattle.pf_events.specs.declared.event.Event.{Event}
use Rattle.pf_events.specs.declared.event.Event.TheVariants.{Settle}
use Rattle.pf_events.specs.declared.event.Reply.{Reply}
use Rattle.pf_events.specs.Session.{Session, peer_in}

-- some call of a crew of this kind may fail with this error
abbrev pub CanFail : {A : Type 0} → (A → List Island → CrewError → A → Type 0) → CrewError → Type 0
CanFail {A} may_fail error =
    (before : A) × (islands : List Island) × (after : A) × may_fail before islands error after

-- the core of the peer of this number
pub record IsCoreAt (s : Session) (i : ℕ) (core : PeerCore) : Type 0 where
  pub scene : core.scene ≡ s.scene
  pub peer : core.peer ≡ peer_in s i

-- What an event does to the crew, which is `first` before it and `last` after it. For a settle,
-- what the crew says of a call with the islands of a tick holds for each tick that the core of the
-- event's peer misses, one after the other; it fails where a call fails. Any other event leaves the
-- crew as it was, and fails only where there is no memory. `IsCore` tells which core it is.
abbrev pub UsesCrew : {A : Type 0} → (A → List Island → A → Type 0)
    → (A → List Island → CrewError → A → Type 0) → (PeerCore → Type 0) → Event
    → A → Result Reply StepError → A → Type 0
UsesCrew call may_fail IsCore (Settle peer) first (Ok reply) last =
    (core : PeerCore) × IsCore core × AreCalls call core (missing_count core) first last
UsesCrew call may_fail IsCore (Settle peer) first (Err error) last =
    (core : PeerCore) × (new : PeerCore) × IsCore core
    × FailsAfter call may_fail core new first error last
UsesCrew call may_fail IsCore event first (Ok reply) last = last ≡ first
UsesCrew call may_fail IsCore event first (Err error) last =
    (error ≡ OutOfMemory) × (last ≡ first)
