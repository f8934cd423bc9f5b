-- The phases Gravity to Timers of a list of bodies with the contacts between them, as Box2D-Lite's
-- World::Step: Gravity, Pre-step, warm starting, Rounds, Positions; and for how long each body has
-- been still. Gravity, Positions and Timers are of awake bodies alone. The velocities of every body
-- that a row names change, so rows are to name awake and static bodies.
use Rattle.std.specs.Prelude.{ℕ, List, map, slice_index_or}
use Rattle.pf_shapes.specs.Fixture.{Fixture, inverse_mass, inverse_inertia}
use Rattle.pf_shapes.specs.Body.{BodyState, no_state}
use Rattle.pf_shapes.specs.Scene.{Scene, fixture_at}
use Rattle.pf_rows.specs.declared.row.Side.{Side}
use Rattle.pf_rows.specs.declared.row.Side.TheVariants.{Static, Dynamic}
use Rattle.pf_rows.specs.Row.{InverseMass, Row, no_mass}
use Rattle.pf_solver.specs.declared.velocities.TheConstants.{ROUNDS}
use Rattle.pf_solver.specs.Bodies.{after_gravity, after_motion, after_timer, each_awake, gravity_per_tick}
use Rattle.pf_solver.specs.Constraint.{PreStepBody, constraint_of}
use Rattle.pf_solver.specs.Impulse.{after_round, after_warm_start}
use Rattle.pf_solver.specs.Velocities.{Batch, pass, passes}

-- how easily impulses move a body of this fixture
abbrev pub mass_of : Fixture → InverseMass
mass_of f = record { inverse_mass = inverse_mass f; inverse_inertia = inverse_inertia f }

-- the body of a number as the pre-step sees it: a static one at its start, another at its place in
-- the list
unfoldable pub pre_step_body : Scene → List BodyState → ℕ → Side → PreStepBody
pre_step_body s bodies number Static = record {
  position = (slice_index_or s.starts number no_state).position;
  mass = no_mass;
  friction = (fixture_at s number).friction;
}
pre_step_body s bodies number (Dynamic place) = record {
  position = (slice_index_or bodies place no_state).position;
  mass = mass_of (fixture_at s number);
  friction = (fixture_at s number).friction;
}

-- a row after the pre-step; its old masses and constraint are not read
unfoldable pub prepared_row : Scene → List BodyState → Row → Row
prepared_row s bodies r =
    let a = pre_step_body s bodies r.entry.touch.a r.entry.first in
    let b = pre_step_body s bodies r.entry.touch.b r.entry.second in
    record {
      entry = r.entry;
      first_mass = a.mass;
      second_mass = b.mass;
      constraint = constraint_of a b r.entry.touch.point;
    }

-- Gravity and the pre-step: the batch that the rounds begin with
unfoldable pub prepared_batch : Scene → List BodyState → List Row → Batch
prepared_batch s bodies rows =
    let fallen = each_awake (after_gravity (gravity_per_tick s.gravity)) bodies in
    record { bodies = fallen; rows = map (prepared_row s fallen) rows }

-- Velocities: gravity, the pre-step, warm starting along the list, and the rounds
abbrev pub solved_velocities : Scene → List BodyState → List Row → Batch
solved_velocities s bodies rows =
    let fallen = each_awake (after_gravity (gravity_per_tick s.gravity)) bodies in
    passes ROUNDS after_round (pass after_warm_start fallen (map (prepared_row s fallen) rows))

-- the bodies and rows after the phases Gravity to Timers
unfoldable pub solved_batch : Scene → List BodyState → List Row → Batch
solved_batch s bodies rows =
    let after = solved_velocities s bodies rows in
    record after { bodies = each_awake (λ b. after_timer (after_motion b)) after.bodies }
