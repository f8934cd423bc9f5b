-- What a body is apart from its motion, as Box2D's b2FixtureDef: shape, mass, friction and owner,
-- with the inverse mass and the inverse inertia that follow from them.
use Rattle.std.specs.Prelude.{◌≡◌, ℕ, ◌*◌, ◌<◌, ℤ, pos, ◌≤ℤ◌, ◌⊎◌, Bool, ◌==◌, Option, IfSome, if◌then◌else◌}
use Rattle.std.specs.Int.RustNames.{unsigned_abs}
use Rattle.pf_num.specs.Fx.{one, sum, product, quotient}
use Rattle.pf_shapes.specs.declared.fixture.Shape.{Shape}
use Rattle.pf_shapes.specs.declared.fixture.Shape.TheVariants.{Circle, Box}
use Rattle.pf_shapes.specs.declared.fixture.TheConstants.{MIN_SIZE, MAX_SIZE, MIN_MASS, MAX_MASS, MAX_FRICTION, PLAYERS}

-- a body of mass 0 is static, and one without owner is moved by no player
pub record Fixture : Type 0 where
  pub shape : Shape
  pub mass : ℤ
  pub friction : ℤ
  pub owner : Option ℕ

-- a number from low to high
abbrev pub IsWithin : ℤ → ℤ → ℤ → Type 0
IsWithin low high z = (low ≤ℤ z) × (z ≤ℤ high)

-- a radius or a half extent
abbrev pub IsSize : ℤ → Type 0
IsSize z = IsWithin MIN_SIZE MAX_SIZE z

-- both half extents, or the radius, in range
abbrev pub HasSize : Shape → Type 0
HasSize (Circle r) = IsSize r
HasSize (Box hx hy) = IsSize hx × IsSize hy

-- the mass of a dynamic body
abbrev pub IsDynamicMass : ℤ → Type 0
IsDynamicMass z = IsWithin MIN_MASS MAX_MASS z

-- 0 of a static body, or the mass of a dynamic one
abbrev pub IsMass : ℤ → Type 0
IsMass z = (z ≡ pos 0) ⊎ IsDynamicMass z

-- no player, or one of the players
abbrev pub IsOwner : Option ℕ → Type 0
IsOwner owner = IfSome owner (λ player. player < PLAYERS)

-- the limits of a fixture
pub record IsFixture (f : Fixture) : Type 0 where
  pub size : HasSize f.shape
  pub mass : IsMass f.mass
  pub friction : IsWithin (pos 0) MAX_FRICTION f.friction
  pub owner : IsOwner f.owner

-- its mass is 0
abbrev pub is_static : Fixture → Bool
is_static f = unsigned_abs f.mass == 0

-- the fixed-point number of an integer
abbrev pub from_int : ℕ → ℤ
from_int n = pos (n * 16777216)

-- the moment of inertia about the centre: of a disc, m r^2 / 2; of a box with the sides w = 2hx and
-- h = 2hy, m (w^2 + h^2) / 12
unfoldable pub inertia : Shape → ℤ → ℤ
inertia (Circle r) mass = product mass (quotient (product r r) (from_int 2))
inertia (Box hx hy) mass =
    product mass
    (quotient (sum (product (sum hx hx) (sum hx hx)) (product (sum hy hy) (sum hy hy)))
    (from_int 12))

-- 1 / mass, and 0 for a static body
unfoldable pub inverse_mass : Fixture → ℤ
inverse_mass f = if is_static f then pos 0 else quotient one f.mass

-- 1 / inertia, and 0 for a static body
unfoldable pub inverse_inertia : Fixture → ℤ
inverse_inertia f = if is_static f then pos 0 else quotient one (inertia f.shape f.mass)
