-- The bounds of a rotated box contain the box: along each axis no position of it is farther from the
-- centre than the extent.
use Rattle.std.proofs.Common.{ℤ, pos, ◌≤ℤ◌, neg_ℤ, Bool, arith}
use Rattle.std.proofs.lemmas.Int.{ints, clamps}
use Rattle.pf_num.specs.Fx.{saturate, sum, difference, product}
use Rattle.pf_num.proofs.Range.{sum-raw}
use Rattle.pf_num.proofs.Monotone.{product_within}
use Rattle.pf_rot.specs.Vector.{V2, add, sub}
use Rattle.pf_rot.specs.Rotation.{Rot, rotate}
use Rattle.pf_shapes.specs.declared.fixture.Shape.TheVariants.{Box}
use Rattle.pf_shapes.specs.Reach.{magnitude, widen, reach}
use Rattle.pf_shapes.specs.Bounds.{extent, shape_bounds}
use Rattle.pf_shapes.specs.Laws.{IsInBox, IsInBounds}

-- a number from -e to e
abbrev IsUpTo : ℤ → ℤ → Type 0
IsUpTo e t = (neg_ℤ e ≤ℤ t) × (t ≤ℤ e)

sum_within : (u v m n : ℤ) → IsUpTo m u → IsUpTo n v → IsUpTo (sum m n) (sum u v)
unfolding sum saturate
sum_within u v m n hu hv = (omega (arith, ints, clamps), omega (arith, ints, clamps))

difference_within : (u v m n : ℤ) → IsUpTo m u → IsUpTo n v → IsUpTo (sum m n) (difference u v)
unfolding sum difference saturate
difference_within u v m n hu hv = (omega (arith, ints, clamps), omega (arith, ints, clamps))

-- both coordinates of a position of the rotated box are within its extents
first_within : (c s hx hy x y : ℤ) → IsUpTo hx x → IsUpTo hy y → IsUpTo (reach c hx s hy) (difference (product c x) (product s y))
unfolding reach
first_within c s hx hy x y in_x in_y = difference_within _ _ _ _ (product_within c x hx in_x.0 in_x.1) (product_within s y hy in_y.0 in_y.1)

second_within : (c s hx hy x y : ℤ) → IsUpTo hx x → IsUpTo hy y → IsUpTo (reach s hx c hy) (sum (product s x) (product c y))
unfolding reach
second_within c s hx hy x y in_x in_y = sum_within _ _ _ _ (product_within s x hx in_x.0 in_x.1) (product_within c y hy in_y.0 in_y.1)

reach-saturated : (a hx b hy : ℤ) → reach a hx b hy ≤ℤ pos 36028797018963967
unfolding reach
reach-saturated a hx b hy = omega (arith, ints, sum-raw (product (magnitude a) hx) (product (magnitude b) hy))

-- between the ends, on one axis
ends_within : (position t e : ℤ) → e ≤ℤ pos 36028797018963967 → IsUpTo e t →
    (difference position (widen e) ≤ℤ sum position t) × (sum position t ≤ℤ sum position (widen e))
unfolding widen sum difference saturate
ends_within position t e in_range h = (omega (arith, ints, clamps), omega (arith, ints, clamps))

pub box_stays : (hx hy : ℤ) (position : V2) (rotation : Rot) (is_static : Bool) (p : V2) → IsInBox (record { x = hx; y = hy }) p →
    IsInBounds (shape_bounds (Box hx hy) position rotation is_static) (add position (rotate rotation p))
unfolding shape_bounds extent add sub rotate
box_stays hx hy position rotation is_static p h =
    let x = ends_within position.x _ _ (reach-saturated rotation.c hx rotation.s hy) (first_within rotation.c rotation.s hx hy p.x p.y (h.left, h.right) (h.below, h.above)) in
    let y = ends_within position.y _ _ (reach-saturated rotation.s hx rotation.c hy) (second_within rotation.c rotation.s hx hy p.x p.y (h.left, h.right) (h.below, h.above)) in
    record { left = x.0; right = x.1; below = y.0; above = y.1 }
