-- What one body goes through in a tick apart from its contacts, as Box2D-Lite's World::Step:
-- gravity, and positions by semi-implicit Euler; and for how long it has been still, as Box2D 2.x's
-- b2Island::Solve.
use Rattle.std.specs.Prelude.{◌+◌, ◌*◌, Bool, ◌&&◌, List, map, min, nat_le, if◌then◌else◌}
use Rattle.std.specs.Int.RustNames.{unsigned_abs}
use Rattle.pf_num.specs.Fx.{tick}
use Rattle.pf_rot.specs.Vector.{V2, add, scale}
use Rattle.pf_rot.specs.Rotation.{turn}
use Rattle.pf_shapes.specs.Body.{BodyState}
use Rattle.pf_solver.specs.declared.bodies.TheConstants.{STILL_SPEED, STILL_SPIN, STILL_TICKS}

-- what gravity adds to a velocity in a tick
abbrev pub gravity_per_tick : V2 → V2
gravity_per_tick gravity = scale tick gravity

-- Gravity
unfoldable pub after_gravity : V2 → BodyState → BodyState
after_gravity pull b = record b { velocity = add b.velocity pull }

-- Positions, by semi-implicit Euler: the new velocity moves the body, and the new spin turns it
unfoldable pub after_motion : BodyState → BodyState
after_motion b = record b {
  position = add b.position (scale tick b.velocity);
  rotation = turn b.rotation b.spin;
}

-- at most the speed of still bodies, by exact squares
abbrev pub is_slow : V2 → Bool
is_slow v =
    nat_le (unsigned_abs v.x * unsigned_abs v.x + unsigned_abs v.y * unsigned_abs v.y)
    (STILL_SPEED * STILL_SPEED)

-- slow, and with at most the spin of still bodies
unfoldable pub is_still : BodyState → Bool
is_still b = is_slow b.velocity && nat_le (unsigned_abs b.spin) STILL_SPIN

-- Timers: for how many ticks a body has been still, up to 32
unfoldable pub after_timer : BodyState → BodyState
after_timer b = record b { timer = if is_still b then min (b.timer + 1) STILL_TICKS else 0 }

-- a phase of the awake bodies; the others stay as they are
abbrev pub each_awake : (BodyState → BodyState) → List BodyState → List BodyState
each_awake phase bodies = map (λ b. if b.awake then phase b else b) bodies
