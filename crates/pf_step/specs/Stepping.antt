-- What a step returns, and why a step that calls a crew fails.
use Rattle.std.specs.Prelude.{◌≡◌, false, List, Result, Ok, Err, IfOk, OnErr, OnOk, length}
use Rattle.pf_shapes.specs.Scene.{Scene}
use Rattle.pf_commands.specs.declared.payload.Payload.{Payload}
use Rattle.pf_cache.specs.Manifolds.{no_manifolds}
use Rattle.pf_step.specs.Work.{KnowsWorld, Work, work_after_tick}
use Rattle.pf_step.specs.Changes.{AreAdded, BodyChange, Changes, bodies_before, world_before}
use Rattle.pf_islands.specs.Split.{Island}
use Rattle.pf_step.specs.declared.crew.CrewError.{CrewError}
use Rattle.pf_step.specs.declared.crew.StepError.{StepError}
use Rattle.pf_step.specs.declared.crew.StepError.TheVariants.{Crew, OutOfMemory}
use Rattle.pf_step.specs.Step.{collisions_of_tick, step, world_after}
use Rattle.pf_step.specs.World.{World}

-- what a step with the payloads of a tick does to a world: it makes the next one of it, returns
-- what undoes that, counts the tick, and keeps its contact points; or it returns an error, and
-- leaves the world as it was, with nothing counted and no points kept; and what the work then knows
-- of dirty bodies and of the contacts is true of the world
pub record IsStep {E : Type 0} (s : Scene) (w : World) (payloads : List Payload) (old new : Work)
    (after : World) (result : Result Changes E) : Type 0 where
  pub value : OnOk result (after ≡ step s w payloads)
  pub before : IfOk result (λ changes. world_before changes after ≡ w)
  pub unchanged : OnErr result (after ≡ w)
  pub bodies : length after.bodies ≡ length s.fixtures
  pub counted : OnOk result
      (new ≡ work_after_tick (collisions_of_tick s w payloads old.manifolds) new.dirty old)
  pub not_counted : OnErr result
      (new ≡ record old { manifolds = no_manifolds; dirty = new.dirty; is_known = false })
  pub follows : KnowsWorld s after new

-- what a step with the payloads of a tick makes of a world that it only reads: the next one, with
-- the tick counted and its contact points kept, and what the work then knows is true of that world;
-- or it returns an error, with nothing counted and no points kept
pub record IsStepOfCopy {E : Type 0} (s : Scene) (w : World) (payloads : List Payload)
    (old new : Work) (result : Result World E) : Type 0 where
  pub value : IfOk result (λ next. next ≡ step s w payloads)
  pub counted : OnOk result
      (new ≡ work_after_tick (collisions_of_tick s w payloads old.manifolds) new.dirty old)
  pub not_counted : OnErr result
      (new ≡ record old { manifolds = no_manifolds; dirty = new.dirty; is_known = false })
  pub follows : IfOk result (λ next. KnowsWorld s next new)

-- What the phases after Commands do to a world, of which some changes of bodies are noted already.
-- They make the next world of it and note more changes of its bodies, or return an error. In both
-- cases undoing all that is noted restores the world before the first noted change.
pub record FinishesTick {A E : Type 0} (s : Scene) (w : World) (noted : List BodyChange)
    (after : World) (changes : Changes) (result : Result A E) : Type 0 where
  pub value : OnOk result (after ≡ world_after s w.contacts w.bodies)
  pub before :
      world_before changes after
      ≡ record { bodies = bodies_before noted w.bodies; contacts = w.contacts }
  pub added : OnOk result (AreAdded (length w.bodies) noted changes.bodies)

-- why a step that calls a crew failed: it was out of memory before the call, or the call with these
-- islands failed with this error
abbrev pub FailsBy : {A : Type 0} → (A → List Island → CrewError → A → Type 0)
    → A → List Island → StepError → A → Type 0
FailsBy may_fail old islands OutOfMemory new = new ≡ old
FailsBy may_fail old islands (Crew error) new = may_fail old islands error new

-- what a step does with its crew: what the crew says of one call with these islands holds, though
-- a crew that allows it is not called where no island is left; or the step fails
abbrev pub CallsCrew : {A B : Type 0} → (A → List Island → A → Type 0)
    → (A → List Island → CrewError → A → Type 0) → List Island → A → A → Result B StepError → Type 0
CallsCrew is_called may_fail islands old new (Ok done) = is_called old islands new
CallsCrew is_called may_fail islands old new (Err error) = FailsBy may_fail old islands error new
