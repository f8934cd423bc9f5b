-- Extents are at least one raw unit, so that no lower bound is above the upper bound.
use Rattle.std.proofs.Common.{◌≡◌, ℕ, ℤ, pos, negsuc, arith, ◌≤ℤ◌}
use Rattle.std.proofs.lemmas.Int.{ints, clamps}
use Rattle.pf_num.specs.Round.{near}
use Rattle.pf_num.proofs.Signs.{is_negative-pos}
use Rattle.pf_num.specs.Fx.{saturate, sum, difference, product}
use Rattle.pf_shapes.specs.Fixture.{IsSize}
use Rattle.pf_shapes.specs.Reach.{magnitude, reach, widen}

-- the number nearest to a number from 0 on isn't below 0
near-pos : (p q : ℕ) → pos 0 ≤ℤ near (pos p) (pos q)
unfolding near
near-pos p q = rw (is_negative-pos p, is_negative-pos q) (omega (arith, ints))

saturated-pos : (z : ℤ) → pos 0 ≤ℤ z → pos 0 ≤ℤ saturate z
unfolding saturate
saturated-pos z h = omega (arith, ints, clamps)

product-pos : (a b : ℤ) → pos 0 ≤ℤ b → pos 0 ≤ℤ product (magnitude a) b
unfolding product
product-pos a (pos b) h = saturated-pos _ (near-pos _ _)
product-pos a (negsuc b) h = absurd (omega (arith, ints))

sum-pos : (a b : ℤ) → pos 0 ≤ℤ a → pos 0 ≤ℤ b → pos 0 ≤ℤ sum a b
unfolding sum
sum-pos a b h k = saturated-pos _ (omega (arith, ints))

widen-pos : (z : ℤ) → pos 0 ≤ℤ z → pos 1 ≤ℤ widen z
unfolding widen sum saturate
widen-pos z h = omega (arith, ints, clamps)

-- a circle's extent is above 0
pub circle_reaches : (r w : ℤ) → IsSize r → w ≡ widen r → pos 1 ≤ℤ w
circle_reaches r w size e = rw e (widen-pos r (omega (arith, ints)))

-- and a box's
pub box_reaches : (a hx b hy w : ℤ) → IsSize hx → IsSize hy → w ≡ widen (reach a hx b hy) → pos 1 ≤ℤ w
unfolding reach
box_reaches a hx b hy w x y e =
    rw e (widen-pos _ (sum-pos _ _ (product-pos a hx (omega (arith, ints))) (product-pos b hy (omega (arith, ints)))))

-- a position less an extent is at most the position plus it
pub ends_ordered : (p e : ℤ) → pos 1 ≤ℤ e → difference p e ≤ℤ sum p e
unfolding sum difference saturate
ends_ordered p e h = omega (arith, ints, clamps)
