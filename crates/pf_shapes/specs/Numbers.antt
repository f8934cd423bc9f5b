-- Numbers from outside, of a text or of a call, as the parts of a scene that they make; each out of
-- its range is an error. A number is None where a field encodes none. The first error from the left
-- is the one that is returned.
use Rattle.std.specs.Prelude.{ℕ, ℤ, ◌&&◌, zero, pos, neg_ℤ, int_le, Option, Some, None, Result, Ok, Err, if◌then◌else◌}
use Rattle.pf_text.specs.Fault.{◌>>=◌}
use Rattle.pf_rot.specs.Vector.{V2}
use Rattle.pf_rot.specs.Rotation.{Rot, unit, upright}
use Rattle.pf_shapes.specs.declared.fault.SceneFault.{SceneFault}
use Rattle.pf_shapes.specs.declared.fault.SceneFault.TheVariants.{BadMass, BadNumber, BadSize}
use Rattle.pf_shapes.specs.declared.fixture.Shape.{Shape}
use Rattle.pf_shapes.specs.declared.fixture.Shape.TheVariants.{Circle, Box}
use Rattle.pf_shapes.specs.declared.fixture.TheConstants.{MIN_SIZE, MAX_SIZE, MIN_MASS, MAX_MASS, MAX_FRICTION}
use Rattle.pf_shapes.specs.declared.numbers.TheConstants.{MAX_DIRECTION}
use Rattle.pf_shapes.specs.declared.scene.TheConstants.{MAX_POSITION}
use Rattle.pf_shapes.specs.Fixture.{Fixture}

-- a number from low to high; one that is out of that range is the error `outside`
abbrev pub checked_number : SceneFault → ℤ → ℤ → Option ℤ → Result ℤ SceneFault
checked_number outside low high None = Err BadNumber
checked_number outside low high (Some z) =
    if int_le low z && int_le z high then Ok z else Err outside

-- a vector, of which no part is above this limit in magnitude
unfoldable pub checked_vector : ℤ → Option ℤ → Option ℤ → Result V2 SceneFault
checked_vector limit x y = do
  x ← checked_number BadNumber (neg_ℤ limit) limit x
  y ← checked_number BadNumber (neg_ℤ limit) limit y
  Ok (record { x = x; y = y })

-- 0 of a static body, or the mass of a dynamic one
unfoldable pub checked_mass : Option ℤ → Result ℤ SceneFault
checked_mass (Some (pos zero)) = Ok (pos 0)
checked_mass z = checked_number BadMass MIN_MASS MAX_MASS z

-- the circle of a radius
unfoldable pub checked_circle : Option ℤ → Result Shape SceneFault
checked_circle r = do
  r ← checked_number BadSize MIN_SIZE MAX_SIZE r
  Ok (Circle r)

-- the box of two half extents
unfoldable pub checked_box : Option ℤ → Option ℤ → Result Shape SceneFault
checked_box hx hy = do
  hx ← checked_number BadSize MIN_SIZE MAX_SIZE hx
  hy ← checked_number BadSize MIN_SIZE MAX_SIZE hy
  Ok (Box hx hy)

-- the fixture of a shape
unfoldable pub checked_fixture : Result (Option ℕ) SceneFault → Option ℤ → Option ℤ
    → Result Shape SceneFault → Result Fixture SceneFault
checked_fixture owner mass friction shape = do
  owner ← owner
  mass ← checked_mass mass
  friction ← checked_number BadNumber (pos 0) MAX_FRICTION friction
  shape ← shape
  Ok (record { shape = shape; mass = mass; friction = friction; owner = owner })

-- the rotation of the direction (c, s), its cosine and sine up to length
unfoldable pub checked_rotation : Option ℤ → Option ℤ → Result Rot SceneFault
checked_rotation c s = do
  direction ← checked_vector MAX_DIRECTION c s
  Ok (unit direction.x direction.y)

-- a position, and upright there
unfoldable pub upright_transform : Option ℤ → Option ℤ → Result (V2 × Rot) SceneFault
upright_transform x y = do
  position ← checked_vector MAX_POSITION x y
  Ok (position, upright)

-- a position, and the rotation there
unfoldable pub turned_transform : Option ℤ → Option ℤ → Option ℤ → Option ℤ
    → Result (V2 × Rot) SceneFault
turned_transform x y c s = do
  position ← checked_vector MAX_POSITION x y
  rotation ← checked_rotation c s
  Ok (position, rotation)

-- a body's fixture and where it starts
unfoldable pub checked_body : Result Fixture SceneFault → Result (V2 × Rot) SceneFault
    → Result (Fixture × (V2 × Rot)) SceneFault
checked_body fixture transform = do
  fixture ← fixture
  transform ← transform
  Ok (fixture, transform)
