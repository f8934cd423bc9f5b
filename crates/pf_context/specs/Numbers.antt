-- Numbers from outside, as the scenes and the commands that they make; each out of its range is an
-- error. The first error from the left is the one that is returned.
use Rattle.std.specs.Prelude.{ℕ, ℤ, nat_le, nat_lt, Option, Some, None, Result, Ok, Err, if◌then◌else◌}
use Rattle.std.specs.Int.RustNames.{unsigned_abs}
use Rattle.pf_text.specs.Fault.{◌>>=◌}
use Rattle.pf_num.specs.Fx.{max_raw}
use Rattle.pf_rot.specs.Vector.{V2}
use Rattle.pf_rot.specs.Rotation.{Rot}
use Rattle.pf_commands.specs.declared.payload.Payload.{Payload}
use Rattle.pf_commands.specs.declared.payload.Payload.TheVariants.{Push, Turn, Place}
use Rattle.pf_commands.specs.Coordinate.{is_coordinate}
use Rattle.pf_shapes.specs.declared.fault.SceneFault.{SceneFault}
use Rattle.pf_shapes.specs.declared.fault.SceneFault.TheVariants.{BadNumber}
use Rattle.pf_shapes.specs.declared.fixture.TheConstants.{PLAYERS}
use Rattle.pf_shapes.specs.declared.scene.TheConstants.{MAX_GRAVITY}
use Rattle.pf_shapes.specs.Fixture.{Fixture}
use Rattle.pf_shapes.specs.Numbers.{checked_box, checked_circle, checked_fixture, checked_vector, turned_transform, upright_transform}
use Rattle.pf_shapes.specs.Scene.{Scene, empty_scene}
use Rattle.pf_context.specs.declared.error.ContextError.{ContextError}
use Rattle.pf_context.specs.declared.error.ContextError.TheVariants as errors
use Rattle.pf_context.specs.declared.numbers.Material.{Material}
use Rattle.pf_context.specs.declared.numbers.RawV2.{RawV2}
use Rattle.pf_context.specs.Errors.{returned}

-- nobody, or one of the players
unfoldable pub checked_owner : Option ℕ → Result (Option ℕ) SceneFault
checked_owner None = Ok None
checked_owner (Some player) = if nat_lt player PLAYERS then Ok (Some player) else Err BadNumber

-- the gravity of a scene
abbrev pub scene_gravity : RawV2 → Result V2 SceneFault
scene_gravity raw = checked_vector MAX_GRAVITY (Some raw.x) (Some raw.y)

-- the fixture of a circle
abbrev pub circle_of : Material → ℤ → Result Fixture SceneFault
circle_of m r =
    let owner = checked_owner m.owner in
    checked_fixture owner (Some m.mass) (Some m.friction) (checked_circle (Some r))

-- the fixture of a box
abbrev pub box_of : Material → RawV2 → Result Fixture SceneFault
box_of m half =
    let owner = checked_owner m.owner in
    let shape = checked_box (Some half.x) (Some half.y) in
    checked_fixture owner (Some m.mass) (Some m.friction) shape

-- where a body starts that stands upright
abbrev pub upright_at : RawV2 → Result (V2 × Rot) SceneFault
upright_at place = upright_transform (Some place.x) (Some place.y)

-- where a body starts that is turned into a direction
abbrev pub turned_at : RawV2 → RawV2 → Result (V2 × Rot) SceneFault
turned_at place direction =
    turned_transform (Some place.x) (Some place.y) (Some direction.x) (Some direction.y)

abbrev pub empty_scene_of : Result V2 SceneFault → Result Scene SceneFault
empty_scene_of (Ok gravity) = Ok (empty_scene gravity)
empty_scene_of (Err fault) = Err fault

-- a scene without bodies
abbrev pub scene_of_gravity : RawV2 → Result Scene ContextError
scene_of_gravity raw = returned errors.Scene (empty_scene_of (scene_gravity raw))

-- ---- payloads of commands

-- a number of a command
unfoldable pub checked_fixed : ℤ → Result ℤ ContextError
checked_fixed z =
    if nat_le (unsigned_abs z) (unsigned_abs max_raw) then Ok z else Err errors.BadNumber

-- a part of a position to which a command moves a body
unfoldable pub checked_coordinate : ℤ → Result ℤ ContextError
checked_coordinate z = if is_coordinate z then Ok z else Err errors.BadNumber

-- an impulse
unfoldable pub push_payload : ℕ → RawV2 → Result Payload ContextError
push_payload body v = do
  x ← checked_fixed v.x
  y ← checked_fixed v.y
  Ok (Push body x y)

-- an angular impulse
unfoldable pub turn_payload : ℕ → ℤ → Result Payload ContextError
turn_payload body x = do
  x ← checked_fixed x
  Ok (Turn body x)

-- a position
unfoldable pub place_payload : ℕ → RawV2 → Result Payload ContextError
place_payload body v = do
  x ← checked_coordinate v.x
  y ← checked_coordinate v.y
  Ok (Place body x y)
