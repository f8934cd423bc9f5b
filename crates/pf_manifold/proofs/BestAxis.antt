-- The best axis of boxes without a separating axis is one of greatest separation, up to the
-- tolerances.
use Rattle.std.proofs.Common.{◌≡◌, ◌≢◌, ◌≤◌, ℤ, pos, neg_ℤ, ◌+ℤ◌, ◌-ℤ◌, ◌*ℤ◌, ◌*◌, ◌≤ℤ◌, ◌<ℤ◌, Bool, true, false, ◌||◌, refl, ap, ◌∙◌, arith}
use Rattle.std.proofs.lemmas.Bool.{or_parts}
use Rattle.std.proofs.lemmas.Int.{ints, clamps}
use Rattle.std.proofs.Math.IntN.{*ℤ_comm}
use Rattle.std.specs.Int.RustNames.{unsigned_abs}
use Rattle.std.specs.Prelude.{int_lt, if◌then◌else◌}
use Rattle.pf_num.specs.Round.{near}
use Rattle.pf_num.specs.Fx.{one, IsRaw, saturate, sum, product}
use Rattle.pf_num.proofs.Range.{difference-raw}
use Rattle.pf_num.proofs.Monotone.{product-monotone, times-monotone}
use Rattle.pf_num.proofs.Nearest.{meets}
use Rattle.pf_num.proofs.Operations.{product_comm, product-zero, product-one, product-neg}
use Rattle.pf_rot.specs.Vector.{V2, sub}
use Rattle.pf_shapes.specs.declared.fixture.Shape.TheVariants.{Box}
use Rattle.pf_shapes.specs.Fixture.{HasSize}
use Rattle.pf_manifold.specs.declared.separation.Axis.{Axis}
use Rattle.pf_manifold.specs.declared.separation.Axis.TheVariants.{AX, AY, BX, BY}
use Rattle.pf_manifold.specs.PlacedShape.{OrientedBox}
use Rattle.pf_manifold.specs.Separation.{Separations, Candidate, relative_tolerance, absolute_tolerance, threshold, better_candidate, best_axis, frames_of, face_separations, separations_of, has_gap}
use Rattle.pf_manifold.specs.GeometryLaws.{separation_along, extent_along, boxes_separation, boxes_best_axis, boxes_have_gap}
use Rattle.pf_manifold.proofs.Comparisons.{is_below, not_above}

-- a separation of boxes that overlap
record IsOverlap (z : ℤ) : Type 0 where
  raw : IsRaw z
  below : z ≤ℤ pos 0

-- ---- the threshold

pub times-positive : (k h : ℤ) → pos 0 ≤ℤ k → pos 0 ≤ℤ h → pos 0 ≤ℤ product k h
times-positive k h from_k from_h =
    let e = product-zero h in let m = product-monotone (pos 0) k h from_h from_k in omega (arith, ints, e, m)

-- 0.95 of a number below 0 is at least that number
relative_above : (z : ℤ) → IsOverlap z → z ≤ℤ product relative_tolerance z
relative_above z h =
    let turned : z ≡ neg_ℤ (neg_ℤ z) = omega (arith, ints) in
    let less = product-monotone relative_tolerance one (neg_ℤ z) (omega (arith, ints, h.below)) (omega (arith, ints)) in
    let whole : product one (neg_ℤ z) ≡ neg_ℤ z = product-one (neg_ℤ z) (omega (arith, ints, h.raw)) in
    let back : product relative_tolerance z ≡ neg_ℤ (product relative_tolerance (neg_ℤ z)) =
    ap (product relative_tolerance) turned ∙ product-neg relative_tolerance (neg_ℤ z) in
    omega (arith, ints, less, whole, back)

sum_above : (z u v : ℤ) → IsRaw z → z ≤ℤ u → pos 0 ≤ℤ v → z ≤ℤ sum u v
unfolding sum saturate
sum_above z u v raw hu hv = omega (arith, ints, clamps)

threshold_above : (z h : ℤ) → IsOverlap z → pos 0 ≤ℤ h → z ≤ℤ threshold z h
unfolding threshold
threshold_above z h over some =
    sum_above z _ _ over.raw (relative_above z over) (times-positive absolute_tolerance h (omega (arith, ints)) some)

sum_monotone : (u v w : ℤ) → u ≤ℤ v → sum u w ≤ℤ sum v w
unfolding sum saturate
sum_monotone u v w h = omega (arith, ints, clamps)

threshold_monotone : (y z h : ℤ) → y ≤ℤ z → threshold y h ≤ℤ threshold z h
unfolding threshold
threshold_monotone y z h le =
    let m = product-monotone y z relative_tolerance (omega (arith, ints)) le in
    sum_monotone _ _ _ (omega (arith, ints, m, product_comm relative_tolerance y, product_comm relative_tolerance z))

-- ---- one comparison

-- what a comparison of the best candidate so far with a new one gives
record IsBetter (best new best' : Candidate) (h : ℤ) : Type 0 where
  kept : best.separation ≤ℤ best'.separation
  tolerance : new.separation ≤ℤ threshold best'.separation h
  overlap : IsOverlap best'.separation

better_is : (best new : Candidate) (h : ℤ) → IsOverlap best.separation → IsOverlap new.separation → pos 0 ≤ℤ h
    → IsBetter best new (better_candidate best new h) h
unfolding better_candidate
better_is best new h over_best over_new some = by (int_lt (threshold best.separation h) new.separation) refl
  where
    by : (t : Bool) → int_lt (threshold best.separation h) new.separation ≡ t → IsBetter best new (if t then new else best) h
    by true e =
        let above = is_below (threshold best.separation h) new.separation e in
        let reach = threshold_above best.separation h over_best some in
        record {
          kept = omega (arith, ints, above, reach);
          tolerance = threshold_above new.separation h over_new some;
          overlap = over_new;
        }
    by false e = record {
      kept = omega (arith, ints);
      tolerance = not_above _ _ e;
      overlap = over_best;
    }

-- the chosen candidate is one of the two
better_one_of : (P : Candidate → Type 0) (best new : Candidate) (h : ℤ) → P best → P new → P (better_candidate best new h)
unfolding better_candidate
better_one_of P best new h first second = by (int_lt (threshold best.separation h) new.separation)
  where
    by : (t : Bool) → P (if t then new else best)
    by true = second
    by false = first

-- ---- the four candidates

-- separations of boxes that overlap
record AreOverlaps (s : Separations) : Type 0 where
  ax : IsOverlap s.a.x
  ay : IsOverlap s.a.y
  bx : IsOverlap s.b.x
  «by» : IsOverlap s.b.y

-- extents from 0 on
record ArePositive (a b : V2) : Type 0 where
  ax : pos 0 ≤ℤ a.x
  ay : pos 0 ≤ℤ a.y
  bx : pos 0 ≤ℤ b.x
  «by» : pos 0 ≤ℤ b.y

-- the best candidates of the first one to four axes
abbrev of_one : Separations → Candidate
of_one s = record { axis = AX; separation = s.a.x }

abbrev of_two : Separations → V2 → Candidate
of_two s a = better_candidate (of_one s) (record { axis = AY; separation = s.a.y }) a.y

abbrev of_three : Separations → V2 → V2 → Candidate
of_three s a b = better_candidate (of_two s a) (record { axis = BX; separation = s.b.x }) b.x

abbrev of_four : Separations → V2 → V2 → Candidate
of_four s a b = better_candidate (of_three s a b) (record { axis = BY; separation = s.b.y }) b.y

record AreSteps (s : Separations) (a b : V2) : Type 0 where
  first : IsBetter (of_one s) (record { axis = AY; separation = s.a.y }) (of_two s a) a.y
  second : IsBetter (of_two s a) (record { axis = BX; separation = s.b.x }) (of_three s a b) b.x
  third : IsBetter (of_three s a b) (record { axis = BY; separation = s.b.y }) (of_four s a b) b.y

steps : (s : Separations) (a b : V2) → AreOverlaps s → ArePositive a b → AreSteps s a b
steps s a b over some =
    let first = better_is (of_one s) (record { axis = AY; separation = s.a.y }) a.y over.ax over.ay some.ay in
    let second = better_is (of_two s a) (record { axis = BX; separation = s.b.x }) b.x first.overlap over.bx some.bx in
    record {
      first = first;
      second = second;
      third = better_is (of_three s a b) (record { axis = BY; separation = s.b.y }) b.y second.overlap over.«by» some.«by»;
    }

-- a candidate's separation is that of its axis
of_four_along : (s : Separations) (a b : V2) → separation_along s (of_four s a b).axis ≡ (of_four s a b).separation
of_four_along s a b =
    let P : Candidate → Type 0 = λ c. separation_along s c.axis ≡ c.separation in
    better_one_of P _ _ b.y (better_one_of P _ _ b.x (better_one_of P _ _ a.y refl refl) refl) refl

-- each separation is at most the threshold over the best one
within_threshold : (s : Separations) (a b : OrientedBox) (axis : Axis) → AreOverlaps s → ArePositive a.half b.half
    → separation_along s axis ≤ℤ threshold (of_four s a.half b.half).separation (extent_along a b axis)
within_threshold s a b AX over some =
    let t = steps s a.half b.half over some in
    let reach = threshold_above (of_four s a.half b.half).separation a.half.x t.third.overlap some.ax in
    omega (arith, ints, t.first.kept, t.second.kept, t.third.kept, reach)
within_threshold s a b AY over some =
    let t = steps s a.half b.half over some in
    let more = threshold_monotone (of_two s a.half).separation (of_four s a.half b.half).separation a.half.y
    (omega (arith, ints, t.second.kept, t.third.kept)) in
    omega (arith, ints, t.first.tolerance, more)
within_threshold s a b BX over some =
    let t = steps s a.half b.half over some in
    let more = threshold_monotone (of_three s a.half b.half).separation (of_four s a.half b.half).separation b.half.x t.third.kept in
    omega (arith, ints, t.second.tolerance, more)
within_threshold s a b BY over some = (steps s a.half b.half over some).third.tolerance

-- ---- the first axis

-- another axis than the first one has a separation above the threshold over that of the first one
abbrev IsFirst : ℤ → (Axis → ℤ) → Candidate → Type 0
IsFirst z extent c = c.axis ≢ AX → threshold z (extent c.axis) <ℤ c.separation

first_step : (z : ℤ) (extent : Axis → ℤ) (best new : Candidate) (h : ℤ) → extent new.axis ≡ h → z ≤ℤ best.separation
    → IsFirst z extent best → IsFirst z extent (better_candidate best new h)
unfolding better_candidate
first_step z extent best new h is_extent less first = by (int_lt (threshold best.separation h) new.separation) refl
  where
    by : (t : Bool) → int_lt (threshold best.separation h) new.separation ≡ t → IsFirst z extent (if t then new else best)
    by true e = λ other.
        let above = is_below (threshold best.separation h) new.separation e in
        let more = threshold_monotone z best.separation h less in
        rw is_extent (omega (arith, ints, above, more))
    by false e = first

above_first : (s : Separations) (a b : OrientedBox) → AreOverlaps s → ArePositive a.half b.half
    → IsFirst s.a.x (extent_along a b) (of_four s a.half b.half)
above_first s a b over some =
    let t = steps s a.half b.half over some in
    let extent = extent_along a b in
    first_step s.a.x extent (of_three s a.half b.half) _ b.half.y refl (omega (arith, ints, t.first.kept, t.second.kept))
    (first_step s.a.x extent (of_two s a.half) _ b.half.x refl t.first.kept
    (first_step s.a.x extent (of_one s) _ a.half.y refl (omega (arith, ints)) (λ other. absurd (other refl))))

-- ---- boxes

gap_free : (s : Separations) → IsRaw s.a.x → IsRaw s.a.y → IsRaw s.b.x → IsRaw s.b.y → has_gap s ≡ false → AreOverlaps s
unfolding has_gap
gap_free s ax ay bx bz e =
    let last = or_parts (int_lt (pos 0) s.a.x || int_lt (pos 0) s.a.y || int_lt (pos 0) s.b.x) (int_lt (pos 0) s.b.y) e in
    let third = or_parts (int_lt (pos 0) s.a.x || int_lt (pos 0) s.a.y) (int_lt (pos 0) s.b.x) last.0 in
    let first = or_parts (int_lt (pos 0) s.a.x) (int_lt (pos 0) s.a.y) third.0 in
    record {
      ax = record { raw = ax; below = not_above _ _ first.0 };
      ay = record { raw = ay; below = not_above _ _ first.1 };
      bx = record { raw = bx; below = not_above _ _ third.1 };
      «by» = record { raw = bz; below = not_above _ _ last.1 };
    }

boxes_overlap : (a b : OrientedBox) → boxes_have_gap a b ≡ false → AreOverlaps (separations_of a.half b.half (frames_of a b))
unfolding separations_of face_separations sub
boxes_overlap a b e =
    gap_free _ (difference-raw _ _) (difference-raw _ _) (difference-raw _ _) (difference-raw _ _) e

boxes_positive : (a b : OrientedBox) → HasSize (Box a.half.x a.half.y) → HasSize (Box b.half.x b.half.y) → ArePositive a.half b.half
boxes_positive a b ha hb = record {
  ax = omega (arith, ints);
  ay = omega (arith, ints);
  bx = omega (arith, ints);
  «by» = omega (arith, ints);
}

best_along : (a b : OrientedBox)
    → boxes_separation a b (boxes_best_axis a b) ≡ (of_four (separations_of a.half b.half (frames_of a b)) a.half b.half).separation
unfolding best_axis
best_along a b = of_four_along (separations_of a.half b.half (frames_of a b)) a.half b.half

pub best_within_threshold : (a b : OrientedBox) (axis : Axis)
    → HasSize (Box a.half.x a.half.y) → HasSize (Box b.half.x b.half.y) → boxes_have_gap a b ≡ false
    → boxes_separation a b axis ≤ℤ threshold (boxes_separation a b (boxes_best_axis a b)) (extent_along a b axis)
best_within_threshold a b axis ha hb e =
    rw (best_along a b)
    (within_threshold (separations_of a.half b.half (frames_of a b)) a b axis (boxes_overlap a b e) (boxes_positive a b ha hb))

-- ---- in exact numbers

clamped_low : (z : ℤ) → neg_ℤ (pos 36028797018963967) ≤ℤ z → saturate z ≤ℤ z
unfolding saturate
clamped_low z h = omega (arith, ints, clamps)

saturate_le : (u z : ℤ) → u ≤ℤ z → neg_ℤ (pos 36028797018963967) ≤ℤ z → saturate u ≤ℤ z
unfolding saturate
saturate_le u z hu hz = omega (arith, ints, clamps)

-- n and m are the numbers nearest to x and y in units of 2^24
threshold_exact : (x y n m s : ℤ) → 2 * unsigned_abs (x -ℤ n *ℤ one) ≤ 16777216 → 2 * unsigned_abs (y -ℤ m *ℤ one) ≤ 16777216
    → (relative_tolerance *ℤ neg_ℤ (pos 36028797018963967)) ≤ℤ x → pos 0 ≤ℤ y → s ≤ℤ sum (saturate n) (saturate m)
    → (one *ℤ s) ≤ℤ (x +ℤ y +ℤ one)
unfolding sum
threshold_exact x y n m s near_x near_y low_x low_y h =
    let low_n : neg_ℤ (pos 36028797018963967) ≤ℤ n = omega (arith, ints) in
    let low_m : pos 0 ≤ℤ m = omega (arith, ints) in
    let first = clamped_low n low_n in
    let second = clamped_low m (omega (arith, ints)) in
    let total = saturate_le (saturate n +ℤ saturate m) (n +ℤ m) (omega (arith, ints, first, second)) (omega (arith, ints)) in
    omega (arith, ints)

within_exact : (best s h : ℤ) → IsOverlap best → pos 0 ≤ℤ h → s ≤ℤ threshold best h
    → (one *ℤ s) ≤ℤ ((relative_tolerance *ℤ best) +ℤ (absolute_tolerance *ℤ h) +ℤ one)
unfolding threshold product
within_exact best s h over some le =
    let near_x = meets (relative_tolerance *ℤ best) one (omega arith) in
    let near_y = meets (absolute_tolerance *ℤ h) one (omega arith) in
    let low_x = times-monotone (neg_ℤ (pos 36028797018963967)) best relative_tolerance (omega (arith, ints)) (omega (arith, ints, over.raw)) in
    let low_y = times-monotone (pos 0) h absolute_tolerance (omega (arith, ints)) some in
    threshold_exact (relative_tolerance *ℤ best) (absolute_tolerance *ℤ h) (near (relative_tolerance *ℤ best) one) (near (absolute_tolerance *ℤ h) one) s
    near_x.within near_y.within
    (rw (*ℤ_comm relative_tolerance best) low_x)
    (rw (*ℤ_comm absolute_tolerance h) (omega (arith, ints, low_y))) le

extent_positive : (a b : OrientedBox) (axis : Axis) → ArePositive a.half b.half → pos 0 ≤ℤ extent_along a b axis
extent_positive a b AX some = some.ax
extent_positive a b AY some = some.ay
extent_positive a b BX some = some.bx
extent_positive a b BY some = some.«by»

pub best_within_exact : (a b : OrientedBox) (axis : Axis)
    → HasSize (Box a.half.x a.half.y) → HasSize (Box b.half.x b.half.y) → boxes_have_gap a b ≡ false
    → (one *ℤ boxes_separation a b axis) ≤ℤ ((relative_tolerance *ℤ boxes_separation a b (boxes_best_axis a b))
    +ℤ (absolute_tolerance *ℤ extent_along a b axis) +ℤ one)
best_within_exact a b axis ha hb e =
    let some = boxes_positive a b ha hb in
    let s = separations_of a.half b.half (frames_of a b) in
    let over = boxes_overlap a b e in
    rw (best_along a b)
    (within_exact (of_four s a.half b.half).separation (separation_along s axis) (extent_along a b axis)
    (steps s a.half b.half over some).third.overlap (extent_positive a b axis some) (within_threshold s a b axis over some))

pub best_above_first : (a b : OrientedBox)
    → HasSize (Box a.half.x a.half.y) → HasSize (Box b.half.x b.half.y) → boxes_have_gap a b ≡ false → boxes_best_axis a b ≢ AX
    → threshold (boxes_separation a b AX) (extent_along a b (boxes_best_axis a b)) <ℤ boxes_separation a b (boxes_best_axis a b)
unfolding best_axis
best_above_first a b ha hb e other =
    let s = separations_of a.half b.half (frames_of a b) in
    rw (of_four_along s a.half b.half) (above_first s a b (boxes_overlap a b e) (boxes_positive a b ha hb) other)
