-- Words of the laws of bounds: which positions a shape covers, and which bounds contain.
use Rattle.std.specs.Prelude.{◌≡◌, ℕ, ◌+◌, ◌*◌, ◌≤◌, ℤ, pos, neg_ℤ, ◌+ℤ◌, ◌-ℤ◌, ◌*ℤ◌, ◌≤ℤ◌}
use Rattle.std.specs.Int.RustNames.{unsigned_abs}
use Rattle.pf_num.specs.Fx.{one, IsRaw}
use Rattle.pf_rot.specs.Vector.{V2, add}
use Rattle.pf_rot.specs.Rotation.{Rot, rotate}
use Rattle.pf_shapes.specs.declared.fixture.Shape.{Shape}
use Rattle.pf_shapes.specs.declared.fixture.Shape.TheVariants.{Circle, Box}
use Rattle.pf_shapes.specs.Body.{BodyState}
use Rattle.pf_shapes.specs.Bounds.{Bounds}

-- a position in a box's own axes, relative to its centre, is in the box of these half extents
pub record IsInBox (half p : V2) : Type 0 where
  pub left : neg_ℤ half.x ≤ℤ p.x
  pub right : p.x ≤ℤ half.x
  pub below : neg_ℤ half.y ≤ℤ p.y
  pub above : p.y ≤ℤ half.y

-- the square of a number
abbrev pub square : ℕ → ℕ
square n = n * n

-- the square of the exact distance between two positions
abbrev pub distance_squared : V2 → V2 → ℕ
distance_squared p q =
    square (unsigned_abs (p.x -ℤ q.x)) + square (unsigned_abs (p.y -ℤ q.y))

-- a position is at most r from the centre, by the exact squares
pub record IsInCircle (r : ℤ) (centre p : V2) : Type 0 where
  pub near : distance_squared p centre ≤ square (unsigned_abs r)

-- a position is within the bounds on both axes
pub record IsInBounds (s : Bounds) (p : V2) : Type 0 where
  pub left : s.low.x ≤ℤ p.x
  pub right : p.x ≤ℤ s.high.x
  pub below : s.low.y ≤ℤ p.y
  pub above : p.y ≤ℤ s.high.y

-- a body of this shape covers a position: a circle by the exact distance, a box where the program's
-- transform takes a position of the box to it
abbrev pub Covers : Shape → BodyState → V2 → Type 0
Covers (Circle r) body p =
    (pos 0 ≤ℤ r) × IsRaw r × IsRaw p.x × IsRaw p.y × IsInCircle r body.position p
Covers (Box hx hy) body p =
    (own : V2) × IsInBox (record { x = hx; y = hy }) own
    × (p ≡ add body.position (rotate body.rotation own))

-- a position up to 2^54: no shape of an allowed size reaches saturation from it
pub record IsInner (position : V2) : Type 0 where
  pub x : unsigned_abs position.x ≤ 18014398509481984
  pub y : unsigned_abs position.y ≤ 18014398509481984

-- the exact transform of a position in a body's own axes to the world, in units of 2^-48, neither
-- rounded nor saturated
abbrev pub exact_position : V2 → Rot → V2 → V2
exact_position position rotation p = record {
  x = (one *ℤ position.x) +ℤ ((rotation.c *ℤ p.x) -ℤ (rotation.s *ℤ p.y));
  y = (one *ℤ position.y) +ℤ ((rotation.s *ℤ p.x) +ℤ (rotation.c *ℤ p.y));
}

-- a vector in units of 2^-48
abbrev pub to_fine_units : V2 → V2
to_fine_units v = record { x = one *ℤ v.x; y = one *ℤ v.y }

-- bounds in units of 2^-48
abbrev pub bounds_to_fine_units : Bounds → Bounds
bounds_to_fine_units s =
    record { low = to_fine_units s.low; high = to_fine_units s.high; is_static = s.is_static }
