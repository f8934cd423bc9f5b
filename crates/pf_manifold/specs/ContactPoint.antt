-- A contact point, as Box2D-Lite's Contact and Box2D 2.x's b2ManifoldPoint.
use Rattle.std.specs.Prelude.{ℕ, ℤ}
use Rattle.pf_rot.specs.Vector.{V2}

-- the number of the feature that makes the point; the position; the normal from the first body to
-- the second, of length 1 up to rounding; and the distance of the bodies along it, below 0 where
-- they overlap
pub record ContactPoint : Type 0 where
  pub feature : ℕ
  pub position : V2
  pub normal : V2
  pub separation : ℤ
