-- The bounds of a body, an axis-aligned rectangle that contains its shape, as Box2D's b2AABB, and
-- whether two of them overlap, as its b2TestOverlap.
use Rattle.std.specs.Prelude.{ℤ, ◌≤ℤ◌, Bool, ◌&&◌, int_le}
use Rattle.pf_rot.specs.Vector.{V2, add, sub}
use Rattle.pf_rot.specs.Rotation.{Rot}
use Rattle.pf_shapes.specs.declared.fixture.Shape.{Shape}
use Rattle.pf_shapes.specs.declared.fixture.Shape.TheVariants.{Circle, Box}
use Rattle.pf_shapes.specs.Fixture.{Fixture, is_static}
use Rattle.pf_shapes.specs.Body.{BodyState}
use Rattle.pf_shapes.specs.Reach.{widen, reach}

-- the lower and the upper bound on both axes, and whether the body is static
pub record Bounds : Type 0 where
  pub low : V2
  pub high : V2
  pub is_static : Bool

-- the extent along each axis of a shape, turned by q, from its centre, and one raw unit more
unfoldable pub extent : Shape → Rot → V2
extent (Circle r) q = record { x = widen r; y = widen r }
extent (Box hx hy) q = record { x = widen (reach q.c hx q.s hy); y = widen (reach q.s hx q.c hy) }

-- the bounds of a shape: its position less and plus the extent
unfoldable pub shape_bounds : Shape → V2 → Rot → Bool → Bounds
shape_bounds shape position rotation is_static = record {
  low = sub position (extent shape rotation);
  high = add position (extent shape rotation);
  is_static = is_static;
}

-- the bounds of a body
unfoldable pub fixture_bounds : Fixture → BodyState → Bounds
fixture_bounds f b = shape_bounds f.shape b.position b.rotation (is_static f)

-- no lower bound is above the upper bound
pub record IsOrdered (s : Bounds) : Type 0 where
  pub x : s.low.x ≤ℤ s.high.x
  pub y : s.low.y ≤ℤ s.high.y

-- on one axis: each lower bound is at most the other's upper bound
abbrev pub ranges_overlap : ℤ → ℤ → ℤ → ℤ → Bool
ranges_overlap low high other_low other_high = int_le low other_high && int_le other_low high

-- on both axes
unfoldable pub overlaps : Bounds → Bounds → Bool
overlaps a b =
    ranges_overlap a.low.x a.high.x b.low.x b.high.x
    && ranges_overlap a.low.y a.high.y b.low.y b.high.y
