-- Bounds with a common position overlap, and ordered bounds that overlap have one: the greater of
-- the low ends.
use Rattle.std.proofs.Common.{◌≡◌, ℤ, true, refl, arith, ◌≤ℤ◌}
use Rattle.std.proofs.lemmas.Bool.{and_parts}
use Rattle.std.proofs.lemmas.Int.{ints, clamps}
use Rattle.std.specs.Int.{int_max}
use Rattle.pf_rot.specs.Vector.{V2}
use Rattle.pf_shapes.specs.Bounds.{Bounds, IsOrdered, ranges_overlap, overlaps}
use Rattle.pf_shapes.specs.Laws.{IsInBounds}

-- on one axis
ranges_overlap-shared : (low high other_low other_high p : ℤ) → low ≤ℤ p → p ≤ℤ high → other_low ≤ℤ p → p ≤ℤ other_high →
    ranges_overlap low high other_low other_high ≡ true
ranges_overlap-shared low high other_low other_high p a b c d = grind (arith, ints)

shared-ranges_overlap : (low high other_low other_high : ℤ) → low ≤ℤ high → other_low ≤ℤ other_high → ranges_overlap low high other_low other_high ≡ true →
    (low ≤ℤ int_max low other_low) × (int_max low other_low ≤ℤ high) × (other_low ≤ℤ int_max low other_low) × (int_max low other_low ≤ℤ other_high)
shared-ranges_overlap low high other_low other_high a b t =
    let fact : (low ≤ℤ other_high) × (other_low ≤ℤ high) = grind (arith, ints) in
    (omega (arith, ints, clamps), omega (arith, ints, clamps), omega (arith, ints, clamps), omega (arith, ints, clamps))

pub overlaps-shared_position : (a b : Bounds) (p : V2) → IsInBounds a p → IsInBounds b p → overlaps a b ≡ true
unfolding overlaps
overlaps-shared_position a b p ha hb =
    let x = ranges_overlap-shared a.low.x a.high.x b.low.x b.high.x p.x ha.left ha.right hb.left hb.right in
    let y = ranges_overlap-shared a.low.y a.high.y b.low.y b.high.y p.y ha.below ha.above hb.below hb.above in
    rw (x, y) refl

pub shared_position-overlaps : (a b : Bounds) → IsOrdered a → IsOrdered b → overlaps a b ≡ true → (p : V2) × IsInBounds a p × IsInBounds b p
unfolding overlaps
shared_position-overlaps a b ha hb t =
    let axes = and_parts (ranges_overlap a.low.x a.high.x b.low.x b.high.x) (ranges_overlap a.low.y a.high.y b.low.y b.high.y) t in
    let x = shared-ranges_overlap a.low.x a.high.x b.low.x b.high.x ha.x hb.x axes.0 in
    let y = shared-ranges_overlap a.low.y a.high.y b.low.y b.high.y ha.y hb.y axes.1 in (
      record { x = int_max a.low.x b.low.x; y = int_max a.low.y b.low.y },
      record { left = x.0; right = x.1; below = y.0; above = y.1 },
      record { left = x.2; right = x.3; below = y.2; above = y.3 },
    )
