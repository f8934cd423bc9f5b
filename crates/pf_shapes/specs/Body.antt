-- The motion of a body at one tick, as b2Body keeps it.
use Rattle.std.specs.Prelude.{ℕ, ℤ, pos, Bool, false, not}
use Rattle.pf_rot.specs.Vector.{V2, zero_vector}
use Rattle.pf_rot.specs.Rotation.{Rot, upright}
use Rattle.pf_shapes.specs.Fixture.{Fixture, is_static}

-- position, rotation and velocities; the number of ticks for which the body has been still; and
-- whether it is simulated
pub record BodyState : Type 0 where
  pub position : V2
  pub rotation : Rot
  pub velocity : V2
  pub spin : ℤ
  pub timer : ℕ
  pub awake : Bool

-- the state at the start: at rest, and awake unless static
abbrev pub start_of : Fixture → V2 → Rot → BodyState
start_of f position rotation = record {
  position = position;
  rotation = rotation;
  velocity = zero_vector;
  spin = pos 0;
  timer = 0;
  awake = not (is_static f);
}

-- at rest at the origin, upright, and not awake: what is read where a list has no such body
abbrev pub no_state : BodyState
no_state = record {
  position = zero_vector;
  rotation = upright;
  velocity = zero_vector;
  spin = pos 0;
  timer = 0;
  awake = false;
}

-- without velocity and spin
abbrev pub at_rest : BodyState → BodyState
at_rest b = record b { velocity = zero_vector; spin = pos 0 }
