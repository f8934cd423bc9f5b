-- The phase Commands: what players' commands do to bodies. A push and a turn give an impulse, as
-- b2Body's ApplyLinearImpulse and ApplyAngularImpulse. A stop makes velocity and spin 0. A place
-- puts a body at a position, at rest, and its rotation stays. Each wakes its body; this phase wakes
-- no other.
use Rattle.std.specs.Prelude.{true, List, [], ◌∷◌, Option, Some, slice_get, slice_set, if◌then◌else◌}
use Rattle.pf_num.specs.Fx.{sum, product}
use Rattle.pf_rot.specs.Vector.{V2, add, scale}
use Rattle.pf_shapes.specs.Fixture.{Fixture, inverse_mass, inverse_inertia, is_static}
use Rattle.pf_shapes.specs.Body.{BodyState, at_rest}
use Rattle.pf_shapes.specs.Scene.{Scene}
use Rattle.pf_commands.specs.declared.payload.Payload.{Payload}
use Rattle.pf_commands.specs.declared.payload.Payload.TheVariants.{Push, Turn, Stop, Place}
use Rattle.pf_commands.specs.Payload.{body_of}
use Rattle.pf_step.specs.World.{World}

-- awake, with timer 0
abbrev pub woken_body : BodyState → BodyState
woken_body b = record b { timer = 0; awake = true }

-- the state of a body of this fixture after a command for it
unfoldable pub after_payload : Fixture → Payload → BodyState → BodyState
after_payload f (Push body x y) b =
    let impulse : V2 = record { x = x; y = y } in
    record (woken_body b) { velocity = add b.velocity (scale (inverse_mass f) impulse) }
after_payload f (Turn body x) b =
    record (woken_body b) { spin = sum b.spin (product (inverse_inertia f) x) }
after_payload f (Stop body) b = at_rest (woken_body b)
after_payload f (Place body x y) b =
    record (at_rest (woken_body b)) { position = record { x = x; y = y } }

-- the bodies where the commanded one, if there is one and it is dynamic, has its new state
abbrev pub bodies_with_command
    : List BodyState → Payload → Option Fixture → Option BodyState → List BodyState
bodies_with_command bodies p (Some f) (Some b) =
    if is_static f then bodies else slice_set bodies (body_of p) (after_payload f p b)
bodies_with_command bodies p fixture body = bodies

-- the bodies after one command
unfoldable pub after_command : List Fixture → List BodyState → Payload → List BodyState
after_command fixtures bodies p =
    bodies_with_command bodies p (slice_get fixtures (body_of p)) (slice_get bodies (body_of p))

-- the bodies after one command after the other
unfoldable pub after_commands : List Fixture → List BodyState → List Payload → List BodyState
after_commands fixtures bodies [] = bodies
after_commands fixtures bodies (p ∷ payloads) =
    after_commands fixtures (after_command fixtures bodies p) payloads

-- a world after one command
unfoldable pub apply : Scene → World → Payload → World
apply s w p = record w { bodies = after_command s.fixtures w.bodies p }
