-- A position in a turned box is in the bounds of the box in exact numbers too: each of the two
-- rounded products of a reach is at most a half of a unit too small, and the bounds are a unit
-- wider than the reach.
use Rattle.std.proofs.Common.{◌≡◌, ℕ, ◌+◌, ◌*◌, ◌≤◌, ℤ, pos, negsuc, ◌+ℤ◌, ◌-ℤ◌, ◌*ℤ◌, neg_ℤ, ◌≤ℤ◌, Bool, arith}
use Rattle.std.proofs.lemmas.Int.{ints, clamps}
use Rattle.std.specs.Int.RustNames.{unsigned_abs}
use Rattle.pf_num.specs.Fx.{saturate, sum, difference}
use Rattle.pf_num.proofs.Monotone.{times_within, product_near}
use Rattle.pf_rot.specs.Vector.{V2, add, sub}
use Rattle.pf_rot.specs.Rotation.{Rot}
use Rattle.pf_rot.specs.Laws.{IsAtMostOne}
use Rattle.pf_shapes.specs.declared.fixture.Shape.TheVariants.{Box}
use Rattle.pf_shapes.specs.Fixture.{IsSize}
use Rattle.pf_shapes.specs.Reach.{widen, reach}
use Rattle.pf_shapes.specs.Bounds.{extent, shape_bounds}
use Rattle.pf_shapes.specs.Laws.{IsInBox, IsInBounds, IsInner, exact_position, bounds_to_fine_units}

-- the extent is a unit more than the sum of the rounded products, where nothing saturates
widened_sum : (m n : ℕ) → m ≤ 17179869184 → n ≤ 17179869184 → widen (sum (pos m) (pos n)) ≡ pos (m + n + 1)
unfolding widen sum saturate
widened_sum m n hm hn = omega (arith, ints, clamps)

low_end : (position : ℤ) (k : ℕ) → unsigned_abs position ≤ 18014398509481984 → k ≤ 34359738369 → difference position (pos k) ≡ position -ℤ pos k
unfolding difference saturate
low_end position k hp hk = omega (arith, ints, clamps)

high_end : (position : ℤ) (k : ℕ) → unsigned_abs position ≤ 18014398509481984 → k ≤ 34359738369 → sum position (pos k) ≡ position +ℤ pos k
unfolding sum saturate
high_end position k hp hk = omega (arith, ints, clamps)

-- u and v are exact products, m and n are those rounded
ends_exact : (position t : ℤ) (u v m n : ℕ) → 2 * u ≤ 2 * (m * 16777216) + 16777216 → 2 * v ≤ 2 * (n * 16777216) + 16777216 →
    m ≤ 17179869184 → n ≤ 17179869184 → unsigned_abs position ≤ 18014398509481984 → neg_ℤ (pos (u + v)) ≤ℤ t → t ≤ℤ pos (u + v) →
    ((pos 16777216 *ℤ difference position (widen (sum (pos m) (pos n)))) ≤ℤ ((pos 16777216 *ℤ position) +ℤ t))
    × (((pos 16777216 *ℤ position) +ℤ t) ≤ℤ (pos 16777216 *ℤ sum position (widen (sum (pos m) (pos n)))))
ends_exact position t u v m n hu hv hm hn hp low high =
    rw (widened_sum m n hm hn, low_end position (m + n + 1) hp (omega arith), high_end position (m + n + 1) hp (omega arith))
    (omega (arith, ints), omega (arith, ints))

-- the sum or the difference of two exact products
sum_exact : (a b : ℤ) (u v : ℕ) → neg_ℤ (pos u) ≤ℤ a → a ≤ℤ pos u → neg_ℤ (pos v) ≤ℤ b → b ≤ℤ pos v →
    (neg_ℤ (pos (u + v)) ≤ℤ (a +ℤ b)) × ((a +ℤ b) ≤ℤ pos (u + v))
sum_exact a b u v la ha lb hb = (omega (arith, ints), omega (arith, ints))

difference_exact : (a b : ℤ) (u v : ℕ) → neg_ℤ (pos u) ≤ℤ a → a ≤ℤ pos u → neg_ℤ (pos v) ≤ℤ b → b ≤ℤ pos v →
    (neg_ℤ (pos (u + v)) ≤ℤ (a -ℤ b)) × ((a -ℤ b) ≤ℤ pos (u + v))
difference_exact a b u v la ha lb hb = (omega (arith, ints), omega (arith, ints))

-- a position whose distance along an axis is at most the exact reach is between the ends on that
-- axis
axis_exact : (position t a b : ℤ) (hx hy : ℕ) → unsigned_abs a ≤ 16777216 → unsigned_abs b ≤ 16777216 → hx ≤ 17179869184 → hy ≤ 17179869184 →
    unsigned_abs position ≤ 18014398509481984 →
    (neg_ℤ (pos (unsigned_abs a * hx + unsigned_abs b * hy)) ≤ℤ t) × (t ≤ℤ pos (unsigned_abs a * hx + unsigned_abs b * hy)) →
    ((pos 16777216 *ℤ difference position (widen (reach a (pos hx) b (pos hy)))) ≤ℤ ((pos 16777216 *ℤ position) +ℤ t))
    × (((pos 16777216 *ℤ position) +ℤ t) ≤ℤ (pos 16777216 *ℤ sum position (widen (reach a (pos hx) b (pos hy)))))
unfolding reach
axis_exact position t a b hx hy ha hb size_x size_y inner h =
    let m = product_near (unsigned_abs a) hx ha size_x in
    let n = product_near (unsigned_abs b) hy hb size_y in
    rw (m.1, n.1)
    (ends_exact position t (unsigned_abs a * hx) (unsigned_abs b * hy) m.0 n.0 m.2 n.2 (omega (arith, m.3)) (omega (arith, n.3)) inner h.0 h.1)

box_exact : (hx hy : ℕ) (position : V2) (rotation : Rot) (is_static : Bool) (p : V2) → hx ≤ 17179869184 → hy ≤ 17179869184 → IsAtMostOne rotation → IsInner position →
    IsInBox (record { x = pos hx; y = pos hy }) p →
    IsInBounds (bounds_to_fine_units (shape_bounds (Box (pos hx) (pos hy)) position rotation is_static)) (exact_position position rotation p)
unfolding shape_bounds extent add sub
box_exact hx hy position rotation is_static p size_x size_y turn inner h =
    let cx = times_within rotation.c p.x (pos hx) h.left h.right in
    let sy = times_within rotation.s p.y (pos hy) h.below h.above in
    let sx = times_within rotation.s p.x (pos hx) h.left h.right in
    let cy = times_within rotation.c p.y (pos hy) h.below h.above in
    let tx = difference_exact (rotation.c *ℤ p.x) (rotation.s *ℤ p.y) (unsigned_abs rotation.c * hx) (unsigned_abs rotation.s * hy) cx.0 cx.1 sy.0 sy.1 in
    let ty = sum_exact (rotation.s *ℤ p.x) (rotation.c *ℤ p.y) (unsigned_abs rotation.s * hx) (unsigned_abs rotation.c * hy) sx.0 sx.1 cy.0 cy.1 in
    let x = axis_exact position.x ((rotation.c *ℤ p.x) -ℤ (rotation.s *ℤ p.y)) rotation.c rotation.s hx hy turn.c turn.s size_x size_y inner.x tx in
    let y = axis_exact position.y ((rotation.s *ℤ p.x) +ℤ (rotation.c *ℤ p.y)) rotation.s rotation.c hx hy turn.s turn.c size_x size_y inner.y ty in
    record { left = x.0; right = x.1; below = y.0; above = y.1 }

pub box_stays_exactly : (hx hy : ℤ) (position : V2) (rotation : Rot) (is_static : Bool) (p : V2) → IsSize hx → IsSize hy → IsAtMostOne rotation → IsInner position →
    IsInBox (record { x = hx; y = hy }) p →
    IsInBounds (bounds_to_fine_units (shape_bounds (Box hx hy) position rotation is_static)) (exact_position position rotation p)
box_stays_exactly (pos hx) (pos hy) position rotation is_static p size_x size_y = box_exact hx hy position rotation is_static p (omega (arith, ints)) (omega (arith, ints))
box_stays_exactly (negsuc hx) hy position rotation is_static p size_x size_y = absurd (omega (arith, ints))
box_stays_exactly (pos hx) (negsuc hy) position rotation is_static p size_x size_y = absurd (omega (arith, ints))
