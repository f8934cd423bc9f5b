-- Extents of boxes along an axis.
use Rattle.std.specs.Prelude.{ℤ, pos, ◌≤ℤ◌}
use Rattle.std.specs.Int.RustNames.{unsigned_abs}
use Rattle.pf_num.specs.Fx.{sum, product}
use Rattle.pf_rot.specs.Vector.{V2}

-- one raw unit more
unfoldable pub widen : ℤ → ℤ
widen z = sum z (pos 1)

-- the absolute value
abbrev pub magnitude : ℤ → ℤ
magnitude z = pos (unsigned_abs z)

-- the extent of a box from its centre along an axis with which its sides, of the half extents hx
-- and hy, have the cosines a and b
unfoldable pub reach : ℤ → ℤ → ℤ → ℤ → ℤ
reach a hx b hy = sum (product (magnitude a) hx) (product (magnitude b) hy)

-- both parts are above 0
pub record IsPositive (v : V2) : Type 0 where
  pub x : pos 1 ≤ℤ v.x
  pub y : pos 1 ≤ℤ v.y
