-- Plane vectors over fixed-point numbers, with the products of Box2D-Lite's MathUtils. Each part is
-- rounded and saturated as the operations on numbers are.
use Rattle.std.specs.Prelude.{◌+◌, ◌*◌, ℤ, pos, neg_ℤ}
use Rattle.std.specs.Int.RustNames.{unsigned_abs}
use Rattle.pf_num.specs.Root.{whole_root}
use Rattle.pf_num.specs.Fx.{saturate, sum, difference, product}

-- a vector, or a position: its two parts as raw numbers
pub record V2 : Type 0 where
  pub x : ℤ
  pub y : ℤ

abbrev pub zero_vector : V2
zero_vector = record { x = pos 0; y = pos 0 }

unfoldable pub add : V2 → V2 → V2
add a b = record { x = sum a.x b.x; y = sum a.y b.y }

unfoldable pub sub : V2 → V2 → V2
sub a b = record { x = difference a.x b.x; y = difference a.y b.y }

unfoldable pub neg : V2 → V2
neg a = record { x = neg_ℤ a.x; y = neg_ℤ a.y }

-- k times a
unfoldable pub scale : ℤ → V2 → V2
scale k a = record { x = product k a.x; y = product k a.y }

unfoldable pub dot : V2 → V2 → ℤ
dot a b = sum (product a.x b.x) (product a.y b.y)

-- the cross product of two vectors: how far b is turned from a, times both lengths
unfoldable pub cross : V2 → V2 → ℤ
cross a b = difference (product a.x b.y) (product a.y b.x)

-- the velocity of the point at r of a body of the angular velocity w
unfoldable pub cross_sv : ℤ → V2 → V2
cross_sv w r = record { x = neg_ℤ (product w r.y); y = product w r.x }

-- the length: the root of the exact sum of squares, rounded down and saturated
unfoldable pub length_of : V2 → ℤ
length_of v =
    saturate (pos (whole_root
    (unsigned_abs v.x * unsigned_abs v.x + unsigned_abs v.y * unsigned_abs v.y)))
