-- How the reply to an event uses a crew.
use Rattle.std.proofs.Common.{◌≡◌, ℕ, List, Result, Ok, Err, refl}
use Rattle.pf_step.specs.Split.{Island}
use Rattle.pf_step.specs.declared.crew.CrewError.{CrewError}
use Rattle.pf_step.specs.declared.crew.StepError.{StepError}
use Rattle.pf_step.specs.declared.crew.StepError.TheVariants.{Crew, OutOfMemory}
use Rattle.pf_rollback.specs.Core.{PeerCore}
use Rattle.pf_rollback.specs.Settling.{CallsCrewByTick}
use Rattle.pf_events.specs.declared.event.Event.{Event}
use Rattle.pf_events.specs.declared.event.Event.TheVariants.{Issue, Take, Merge, Advance, Settle, Show, Seal}
use Rattle.pf_events.specs.declared.event.Reply.{Reply}
use Rattle.pf_events.specs.Crews.{CanFail, UsesCrew}

module _ {A : Type 0} (call : A → List Island → A → Type 0) (may_fail : A → List Island → CrewError → A → Type 0) where
  -- what is known of the core that a settle settles can be weakened
  pub uses_weaker : (P Q : PeerCore → Type 0) → ((core : PeerCore) → P core → Q core) → (event : Event) (first : A) (result : Result Reply StepError) (last : A)
      → UsesCrew call may_fail P event first result last → UsesCrew call may_fail Q event first result last
  uses_weaker P Q weaker (Settle peer) first (Ok reply) last h = (h.0, weaker h.0 h.1, h.2)
  uses_weaker P Q weaker (Settle peer) first (Err error) last h = (h.0, h.1, weaker h.0 h.2, h.3)
  uses_weaker P Q weaker (Issue peer payload) first (Ok reply) last h = h
  uses_weaker P Q weaker (Issue peer payload) first (Err error) last h = h
  uses_weaker P Q weaker (Take peer frame) first (Ok reply) last h = h
  uses_weaker P Q weaker (Take peer frame) first (Err error) last h = h
  uses_weaker P Q weaker (Merge peer other) first (Ok reply) last h = h
  uses_weaker P Q weaker (Merge peer other) first (Err error) last h = h
  uses_weaker P Q weaker (Advance peer ticks) first (Ok reply) last h = h
  uses_weaker P Q weaker (Advance peer ticks) first (Err error) last h = h
  uses_weaker P Q weaker (Show peer tick) first (Ok reply) last h = h
  uses_weaker P Q weaker (Show peer tick) first (Err error) last h = h
  uses_weaker P Q weaker (Seal peer tick) first (Ok reply) last h = h
  uses_weaker P Q weaker (Seal peer tick) first (Err error) last h = h

  -- a settle of a core
  pub settle_uses : (core new : PeerCore) (peer : ℕ) (first : A) (result : Result Reply StepError) (last : A)
      → CallsCrewByTick call may_fail core new first last result
      → UsesCrew call may_fail (λ used. used ≡ core) (Settle peer) first result last
  settle_uses core new peer first (Ok reply) last calls = (core, refl, calls)
  settle_uses core new peer first (Err error) last calls = (core, new, refl, calls)

  -- a crew's error is one with which it may fail, and the event is a settle
  pub crew_error : (P : PeerCore → Type 0) (event : Event) (first : A) (error : CrewError) (last : A)
      → UsesCrew call may_fail P event first (Err (Crew error)) last → ((peer : ℕ) × (event ≡ Settle peer)) × CanFail may_fail error
  crew_error P (Settle peer) first error last h =
      let failed = h.3.3 in
      ((peer, refl), (failed.0, _, last, failed.2))
  crew_error P (Issue peer payload) first error last h = let other : Crew error ≡ OutOfMemory = h.0 in absurd cc
  crew_error P (Take peer frame) first error last h = let other : Crew error ≡ OutOfMemory = h.0 in absurd cc
  crew_error P (Merge peer from) first error last h = let other : Crew error ≡ OutOfMemory = h.0 in absurd cc
  crew_error P (Advance peer ticks) first error last h = let other : Crew error ≡ OutOfMemory = h.0 in absurd cc
  crew_error P (Show peer tick) first error last h = let other : Crew error ≡ OutOfMemory = h.0 in absurd cc
  crew_error P (Seal peer tick) first error last h = let other : Crew error ≡ OutOfMemory = h.0 in absurd cc
