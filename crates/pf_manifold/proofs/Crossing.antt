-- The vertex where a segment crosses a side of the reference face is on the line through the
-- segment's ends.
use Rattle.std.proofs.Common.{◌≡◌, ◌≢◌, ℕ, zero, suc, ◌+◌, ◌*◌, ◌^◌, ◌<◌, ◌≤◌, ℤ, pos, negsuc, ◌-ℤ◌, ◌≤ℤ◌, inl, inr, ⊎_elim, refl, ap, ◌∙◌, arith}
use Rattle.std.proofs.lemmas.Int.{ints, clamps}
use Rattle.std.proofs.Math.Nat.{mul-le-mul_left}
use Rattle.std.specs.Int.RustNames.{unsigned_abs}
use Rattle.pf_num.specs.Fx.{one, IsRaw, saturate, sum, difference, product, quotient}
use Rattle.pf_num.proofs.Fractions.{IsFraction, IsPartOf, IsMultiple, quotient_fraction, quotient-zero_left, whole_fraction, product_multiple}
use Rattle.pf_num.proofs.Operations.{product_comm, product-zero, product-one, sum-zero}
use Rattle.pf_num.proofs.Range.{difference-raw}
use Rattle.pf_manifold.specs.declared.incident.Mark.{Mark}
use Rattle.pf_manifold.specs.Incident.{ClipVertex}
use Rattle.pf_manifold.specs.Clip.{crossing}
use Rattle.pf_manifold.specs.GeometryLaws.{IsBetween, IsInnerVertex, IsNearLine}

pub crossing_side : (first second : ClipVertex) (limit : ℤ) (mark : Mark) → (crossing first second limit mark).side ≡ limit
unfolding crossing
crossing_side first second limit mark = refl

-- ---- between the ends

-- the difference from the first end is a part of that of both ends
low_part : (s₀ s₁ z : ℤ) → s₀ ≤ℤ z → z ≤ℤ s₁ → (pos 0 ≤ℤ difference z s₀) × (difference z s₀ ≤ℤ difference s₁ s₀)
unfolding difference saturate
low_part s₀ s₁ z low high = (omega (arith, ints, clamps), omega (arith, ints, clamps))

high_part : (s₀ s₁ z : ℤ) → s₁ ≤ℤ z → z ≤ℤ s₀ → (difference s₁ s₀ ≤ℤ difference z s₀) × (difference z s₀ ≤ℤ pos 0)
unfolding difference saturate
high_part s₀ s₁ z low high = (omega (arith, ints, clamps), omega (arith, ints, clamps))

difference_part : (s₀ s₁ z : ℤ) → IsBetween s₀ s₁ z → IsPartOf (difference s₁ s₀) (difference z s₀)
difference_part s₀ s₁ z h = ⊎_elim (λ k. inl (low_part s₀ s₁ z k.0 k.1)) (λ k. inr (high_part s₀ s₁ z k.0 k.1)) h

low_between : (f₀ f₁ z : ℤ) → IsRaw f₀ → IsRaw f₁ → pos 0 ≤ℤ z → z ≤ℤ difference f₁ f₀
    → (f₀ ≤ℤ sum f₀ z) × (sum f₀ z ≤ℤ f₁)
unfolding difference sum saturate
low_between f₀ f₁ z raw₀ raw₁ low high = (omega (arith, ints, clamps), omega (arith, ints, clamps))

high_between : (f₀ f₁ z : ℤ) → IsRaw f₀ → IsRaw f₁ → difference f₁ f₀ ≤ℤ z → z ≤ℤ pos 0
    → (f₁ ≤ℤ sum f₀ z) × (sum f₀ z ≤ℤ f₀)
unfolding difference sum saturate
high_between f₀ f₁ z raw₀ raw₁ low high = (omega (arith, ints, clamps), omega (arith, ints, clamps))

sum_between : (f₀ f₁ z : ℤ) → IsRaw f₀ → IsRaw f₁ → IsPartOf (difference f₁ f₀) z → IsBetween f₀ f₁ (sum f₀ z)
sum_between f₀ f₁ z raw₀ raw₁ h =
    ⊎_elim (λ k. inl (low_between f₀ f₁ z raw₀ raw₁ k.0 k.1)) (λ k. inr (high_between f₀ f₁ z raw₀ raw₁ k.0 k.1)) h

pub crossing_between : (first second : ClipVertex) (limit : ℤ) (mark : Mark) → IsRaw first.front → IsRaw second.front
    → IsBetween first.side second.side limit → IsBetween first.front second.front (crossing first second limit mark).front
unfolding crossing
crossing_between first second limit mark raw₀ raw₁ h =
    let part = quotient_fraction (difference limit first.side) (difference second.side first.side)
    (difference_part first.side second.side limit h) in
    let rise = difference second.front first.front in
    rw part.1
    (sum_between first.front second.front (product rise (pos part.0)) raw₀ raw₁
    (product_multiple rise part.0 part.2.most (difference-raw second.front first.front)).part)

-- ---- on the line

exact_difference : (x y : ℤ) → unsigned_abs x ≤ 9007199254740992 → unsigned_abs y ≤ 9007199254740992 → difference x y ≡ x -ℤ y
unfolding difference saturate
exact_difference x y hx hy = omega (arith, ints, clamps)

-- a number between two up to 2^53 is up to 2^53
inner_between : (a b z : ℤ) → unsigned_abs a ≤ 9007199254740992 → unsigned_abs b ≤ 9007199254740992 → IsBetween a b z
    → unsigned_abs z ≤ 9007199254740992
inner_between a b z ha hb h = ⊎_elim (λ k. omega (arith, ints, k.0, k.1)) (λ k. omega (arith, ints, k.0, k.1)) h

sum_exact : (f z : ℤ) → unsigned_abs f ≤ 9007199254740992 → unsigned_abs z ≤ 18014398509481984 → sum f z -ℤ f ≡ z
unfolding sum saturate
sum_exact f z hf hz = omega (arith, ints, clamps)

-- a sum less its first part, where the second is a part of the difference of numbers up to 2^53
sum_less : (f₀ f₁ z : ℤ) → unsigned_abs f₀ ≤ 9007199254740992 → unsigned_abs f₁ ≤ 9007199254740992 → IsPartOf (f₁ -ℤ f₀) z
    → sum f₀ z -ℤ f₀ ≡ z
sum_less f₀ f₁ z h₀ h₁ h =
    ⊎_elim (λ k. by z (omega (arith, ints, k.0, k.1))) (λ k. by z (omega (arith, ints, k.0, k.1))) h
  where
    by : (z : ℤ) → unsigned_abs z ≤ 18014398509481984 → sum f₀ z -ℤ f₀ ≡ z
    by z small = sum_exact f₀ z h₀ small

apart : (x y z : ℕ) → 33554432 * x ≤ 33554432 * y + z → 33554432 * y ≤ 33554432 * x + z
    → 33554432 * unsigned_abs (pos x -ℤ pos y) ≤ z
apart x y z low high = grind (arith, ints)

-- the fraction t of r is rounded, and so is t, the fraction of n to d
products_near : (r n d t p : ℕ) → IsFraction n d t → 2 * (r * t) ≤ 2 * (p * 16777216) + 16777216
    → 2 * (p * 16777216) ≤ 2 * (r * t) + 16777216
    → 2 ^ 25 * unsigned_abs (pos (p * d) -ℤ pos (r * n)) ≤ d * (2 ^ 24 + r)
products_near r n d t p f low high =
    let r_low : r * (2 * (n * 16777216)) ≤ r * (2 * (t * d) + d) = mul-le-mul_left r f.low in
    let r_high : r * (2 * (t * d)) ≤ r * (2 * (n * 16777216) + d) = mul-le-mul_left r f.high in
    let d_low : d * (2 * (r * t)) ≤ d * (2 * (p * 16777216) + 16777216) = mul-le-mul_left d low in
    let d_high : d * (2 * (p * 16777216)) ≤ d * (2 * (r * t) + 16777216) = mul-le-mul_left d high in
    apart (p * d) (r * n) (d * (2 ^ 24 + r)) (omega arith) (omega arith)

-- fronts f, sides s, and the difference z of the crossing's front from the first one, for a
-- fraction t
near_line : (f₀ f₁ s₀ s₁ limit z : ℤ) (t : ℕ) → sum f₀ z -ℤ f₀ ≡ z
    → IsFraction (unsigned_abs (limit -ℤ s₀)) (unsigned_abs (s₁ -ℤ s₀)) t → IsMultiple (f₁ -ℤ f₀) t z
    → 2 ^ 25 * unsigned_abs (pos (unsigned_abs (sum f₀ z -ℤ f₀) * unsigned_abs (s₁ -ℤ s₀)) -ℤ pos (unsigned_abs (f₁ -ℤ f₀) * unsigned_abs (limit -ℤ s₀)))
    ≤ unsigned_abs (s₁ -ℤ s₀) * (2 ^ 24 + unsigned_abs (f₁ -ℤ f₀))
near_line f₀ f₁ s₀ s₁ limit z t e fraction multiple =
    rw e
    (products_near (unsigned_abs (f₁ -ℤ f₀)) (unsigned_abs (limit -ℤ s₀)) (unsigned_abs (s₁ -ℤ s₀)) t (unsigned_abs z)
    fraction multiple.low multiple.high)

-- the differences of sides and of fronts are exact
line_of : (first second : ClipVertex) (limit run side rise : ℤ) (t : ℕ) → IsInnerVertex first → IsInnerVertex second
    → side ≡ limit -ℤ first.side → run ≡ second.side -ℤ first.side → rise ≡ second.front -ℤ first.front → IsRaw rise
    → quotient side run ≡ pos t → IsFraction (unsigned_abs side) (unsigned_abs run) t
    → IsNearLine first second limit (sum first.front (product rise (quotient side run)))
line_of first second limit run side rise t in₀ in₁ is_side is_run is_rise raw value fraction =
    let multiple = product_multiple rise t fraction.most raw in
    let exact_multiple = rw is_rise at multiple in
    let exact_fraction = rw (is_side, is_run) at fraction in
    let z = product (second.front -ℤ first.front) (pos t) in
    let back = sum_less first.front second.front z in₀.front in₁.front exact_multiple.part in
    rw (value, is_rise)
    (record { near = near_line first.front second.front first.side second.side limit z t back exact_fraction exact_multiple })

pub crossing_line : (first second : ClipVertex) (limit : ℤ) (mark : Mark) → IsInnerVertex first → IsInnerVertex second
    → IsBetween first.side second.side limit → IsNearLine first second limit (crossing first second limit mark).front
unfolding crossing
crossing_line first second limit mark in₀ in₁ h =
    let inner = inner_between first.side second.side limit in₀.side in₁.side h in
    let part = quotient_fraction (difference limit first.side) (difference second.side first.side)
    (difference_part first.side second.side limit h) in
    line_of first second limit (difference second.side first.side) (difference limit first.side)
    (difference second.front first.front) part.0 in₀ in₁
    (exact_difference limit first.side inner in₀.side) (exact_difference second.side first.side in₁.side in₀.side)
    (exact_difference second.front first.front in₁.front in₀.front) (difference-raw second.front first.front) part.1 part.2

-- ---- at the ends

difference-itself : (z : ℤ) → difference z z ≡ pos 0
unfolding difference saturate
difference-itself z = omega (arith, ints, clamps)

pub crossing_first : (first second : ClipVertex) (mark : Mark) → IsRaw first.front
    → (crossing first second first.side mark).front ≡ first.front
unfolding crossing
crossing_first first second mark raw =
    rw (
      difference-itself first.side,
      quotient-zero_left (difference second.side first.side),
      product_comm (difference second.front first.front) (pos 0),
      product-zero (difference second.front first.front),
    )
    (sum-zero first.front raw)

some_difference : (x y : ℤ) → unsigned_abs x ≤ 9007199254740992 → unsigned_abs y ≤ 9007199254740992 → x ≢ y
    → 0 < unsigned_abs (difference y x)
unfolding difference saturate
some_difference x y hx hy apart = positive (difference y x) (λ e. apart (same x y hx hy e))
  where
    same : (x y : ℤ) → unsigned_abs x ≤ 9007199254740992 → unsigned_abs y ≤ 9007199254740992 → difference y x ≡ pos 0 → x ≡ y
    same x y hx hy e = omega (arith, ints, clamps)

    positive : (z : ℤ) → (z ≡ pos 0 → ⊥) → 0 < unsigned_abs z
    positive (pos zero) h = absurd (h refl)
    positive (pos (suc n)) h = omega arith
    positive (negsuc n) h = omega arith

sum_back : (f₀ f₁ : ℤ) → unsigned_abs f₀ ≤ 9007199254740992 → unsigned_abs f₁ ≤ 9007199254740992 → sum f₀ (difference f₁ f₀) ≡ f₁
unfolding sum difference saturate
sum_back f₀ f₁ h₀ h₁ = omega (arith, ints, clamps)

itself_part : (z : ℤ) → IsPartOf z z
itself_part (pos n) = inl (omega (arith, ints), omega (arith, ints))
itself_part (negsuc n) = inr (omega (arith, ints), omega (arith, ints))

quotient-itself : (z : ℤ) → 0 < unsigned_abs z → quotient z z ≡ one
quotient-itself z some =
    let part = quotient_fraction z z (itself_part z) in
    let whole = whole_fraction (unsigned_abs z) part.0 some part.2 in
    part.1 ∙ ap pos whole

pub crossing_second : (first second : ClipVertex) (mark : Mark) → IsInnerVertex first → IsInnerVertex second
    → first.side ≢ second.side → (crossing first second second.side mark).front ≡ second.front
unfolding crossing
crossing_second first second mark in₀ in₁ apart =
    let rise = difference second.front first.front in
    rw (
      quotient-itself (difference second.side first.side) (some_difference first.side second.side in₀.side in₁.side apart),
      product_comm rise one,
      product-one rise (difference-raw second.front first.front),
    )
    (sum_back first.front second.front in₀.front in₁.front)
