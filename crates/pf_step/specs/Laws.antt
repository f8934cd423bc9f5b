-- What laws of simulations speak of.
use Rattle.std.specs.Prelude.{◌≡◌, ℕ, pos, neg_ℤ, ◌≤ℤ◌, false, List, Some, slice_get}
use Rattle.pf_num.specs.Fx.{product}
use Rattle.pf_shapes.specs.Body.{BodyState}
use Rattle.pf_shapes.specs.Scene.{Scene, fixture_at}
use Rattle.pf_manifold.specs.Key.{Key}
use Rattle.pf_commands.specs.declared.payload.Payload.{Payload}
use Rattle.pf_commands.specs.Merge.{CommandMap, payloads_at}
use Rattle.pf_rows.specs.Impulses.{Impulses}
use Rattle.pf_islands.specs.Reach.{Reaches}
use Rattle.pf_solver.specs.Constraint.{friction_of}
use Rattle.pf_solver.specs.Solve.{solved_batch}
use Rattle.pf_step.specs.Activity.{batch_of_tick}
use Rattle.pf_step.specs.Commands.{after_commands}
use Rattle.pf_step.specs.Simulation.{sim}
use Rattle.pf_step.specs.Step.{touches_of_scene}
use Rattle.pf_step.specs.World.{World}

-- the bodies of the simulation after the commands of a tick
abbrev pub commanded_bodies : Scene → CommandMap → ℕ → List BodyState
commanded_bodies s commands tick =
    after_commands s.fixtures (sim s commands tick).bodies (payloads_at commands tick)

-- no chain of contacts leads from the body of this number to an awake body
abbrev pub IsUndisturbed : Scene → List BodyState → ℕ → Type 0
IsUndisturbed s bodies i =
    (j : ℕ) (b : BodyState) → slice_get bodies j ≡ Some b
    → Reaches s (touches_of_scene s bodies) i j
    → b.awake ≡ false

-- the bodies just before the phase Sleep
abbrev pub bodies_before_sleep : Scene → World → List Payload → List BodyState
bodies_before_sleep s w payloads =
    let batch = batch_of_tick s w payloads in
    (solved_batch s batch.bodies batch.rows).bodies

-- the accumulated impulses are within their limits: the normal impulse is not below 0, and the
-- tangent impulse is within the limit of friction, by the coefficient of friction of both bodies
pub record IsWithinFriction (s : Scene) (k : Key) (p : Impulses) : Type 0 where
  pub normal : pos 0 ≤ℤ p.normal
  pub friction :
      let coefficient = friction_of (fixture_at s k.a).friction (fixture_at s k.b).friction in
      let limit = product coefficient p.normal in
      (neg_ℤ limit ≤ℤ p.tangent) × (p.tangent ≤ℤ limit)
