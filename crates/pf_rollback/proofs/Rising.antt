-- Ticks that rise.
use Rattle.std.proofs.Common.{◌≡◌, ℕ, zero, suc, ◌+◌, ◌-◌, ◌*◌, ◌<◌, ◌≤◌, List, length, map, slice_index, refl, sym, subst, ◌∙◌, arith}
use Rattle.std.specs.List.{range_with_len}
use Rattle.std.specs.List.Sorted.{IsStrictlyIncreasing}
use Rattle.std.specs.Prelude.{Contains}
use Rattle.std.proofs.lemmas.Grind.{get_or_default_zero}
use Rattle.std.proofs.lemmas.List.FromFn.{get_or-map-range_with_len, get_or-range_with_len, length-map-range_with_len, length-range_with_len}
use Rattle.pf_rollback.specs.declared.snapshots.TheConstants.{KEYFRAME_INTERVAL}
use Rattle.pf_rollback.specs.Kept.{AreRising, last_tick}
use Rattle.pf_rollback.specs.Snapshots.{Snapshots, ticks_of}

-- a later one is not below
rise_far : (xs : List ℕ) → IsStrictlyIncreasing xs → (k d : ℕ) → k + d < length xs → slice_index xs k ≤ slice_index xs (k + d)
rise_far xs up k zero within =
    let same : k ≡ k + 0 = omega arith in
    let least : slice_index xs k ≤ slice_index xs k = omega arith in
    subst (λ n. slice_index xs k ≤ slice_index xs n) same least
rise_far xs up k (suc d) within =
    let before : slice_index xs k ≤ slice_index xs (k + d) = rise_far xs up k d (omega (arith, within)) in
    let one : slice_index xs (k + d) < slice_index xs (k + d + 1) = up (k + d) (omega (arith, within)) in
    let next : k + d + 1 ≡ k + suc d = omega arith in
    let behind : slice_index xs k ≤ slice_index xs (k + d + 1) = omega (arith, before, one) in
    subst (λ n. slice_index xs k ≤ slice_index xs n) next behind

-- the last is the greatest
pub last_greatest : (xs : List ℕ) (x : ℕ) → IsStrictlyIncreasing xs → Contains xs x → x ≤ last_tick xs
last_greatest xs x up has =
    let here : slice_index xs has.0 ≡ x = sym (get_or_default_zero xs has.0 x has.1) ∙ has.2 in
    let end : has.0 + (length xs - 1 - has.0) ≡ length xs - 1 = omega (arith, has.1) in
    let below = rise_far xs up has.0 (length xs - 1 - has.0) (omega (arith, has.1)) in
    subst (λ y. y ≤ last_tick xs) here (subst (λ n. slice_index xs has.0 ≤ slice_index xs n) end below)

-- numbers one after the other rise
range_rises : (a n : ℕ) → IsStrictlyIncreasing (range_with_len a n)
range_rises a n k within =
    let long = length-range_with_len a n in
    let here = get_or-range_with_len a n k 0 (omega (arith, within, long)) in
    let next = get_or-range_with_len a n (k + 1) 0 (omega (arith, within, long)) in
    omega (arith, here, next)

-- and so do their multiples
multiples_rise : (a n : ℕ) → IsStrictlyIncreasing (map (λ i. i * KEYFRAME_INTERVAL) (range_with_len a n))
multiples_rise a n k within =
    let f : ℕ → ℕ = λ i. i * KEYFRAME_INTERVAL in
    let long = length-map-range_with_len f a n in
    let here = get_or-map-range_with_len f a n k (a + k) 0 (omega (arith, within, long)) refl in
    let next = get_or-map-range_with_len f a n (k + 1) (a + k + 1) 0 (omega (arith, within, long)) (omega arith) in
    omega (arith, here, next)

pub kept_ticks_rise : (s : Snapshots) → AreRising (ticks_of s)
unfolding ticks_of
kept_ticks_rise s = record { recent = range_rises _ _; keyframes = multiples_rise _ _ }
