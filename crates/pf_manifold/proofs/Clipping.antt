-- A clipped edge is within the width of the face.
use Rattle.std.proofs.Common.{◌≡◌, ℤ, pos, neg_ℤ, ◌≤ℤ◌, ◌<ℤ◌, Bool, true, false, Option, Some, None, ◌⊎◌, ◌↔◌, inl, inr, ⊎_elim, refl, sym, ap, subst, arith}
use Rattle.std.proofs.lemmas.Int.{ints}
use Rattle.std.specs.Prelude.{int_lt, unwrap_or}
use Rattle.pf_manifold.specs.declared.incident.Mark.TheVariants.{CutLow, CutHigh}
use Rattle.pf_manifold.specs.Incident.{ClipVertex, Segment}
use Rattle.pf_manifold.specs.Clip.{crossing, clip_to_line, clip_low, clip_high, then_clip_high, clip}
use Rattle.pf_manifold.specs.GeometryLaws.{IsClipped, LiesWithin, HasEndsWithin, HasEndsBelow, HasEndsAbove}
use Rattle.pf_manifold.proofs.Comparisons.{is_below, not_above, tests_above, tests_below}

-- ---- one side

-- both ends of a clipped segment
abbrev EachEnd : (ClipVertex → Type 0) → Option Segment → Type 0
EachEnd P None = Unit {0}
EachEnd P (Some s) = P s.first × P s.second

kept_ends : (P : ClipVertex → Type 0) (t u : Bool) (s : Segment) (cut : ClipVertex)
    → (t ≡ false → P s.first) → (u ≡ false → P s.second) → P cut → EachEnd P (clip_to_line t u s cut)
unfolding clip_to_line
kept_ends P true true s cut first second at_cut = tt
kept_ends P true false s cut first second at_cut = (at_cut, second refl)
kept_ends P false true s cut first second at_cut = (first refl, at_cut)
kept_ends P false false s cut first second at_cut = (first refl, second refl)

first_end : (s : Segment) {x y : Segment} → Some x ≡ Some y → y.first ≡ x.first
first_end s e = sym (ap (λ (o : Option Segment). (unwrap_or o s).first) e)

second_end : (s : Segment) {x y : Segment} → Some x ≡ Some y → y.second ≡ x.second
second_end s e = sym (ap (λ (o : Option Segment). (unwrap_or o s).second) e)

below_is_most : (x y : ℤ) → x <ℤ y → x ≤ℤ y
below_is_most x y h = omega (arith, ints)

-- nothing is left where both ends are outside
kept_nothing : (t u : Bool) (s : Segment) (cut : ClipVertex) → clip_to_line t u s cut ≡ None → (t ≡ true) × (u ≡ true)
unfolding clip_to_line
kept_nothing true true s cut e = (refl, refl)
kept_nothing true false s cut e = absurd (cc)
kept_nothing false true s cut e = absurd (cc)
kept_nothing false false s cut e = absurd (cc)

-- the ends of a clipped segment, by the tests of the old ones
record AreClipped (t u : Bool) (s clipped : Segment) (cut : ClipVertex) : Type 0 where
  first : (clipped.first ≡ s.first) ⊎ ((clipped.first ≡ cut) × (t ≡ true) × (u ≡ false))
  second : (clipped.second ≡ s.second) ⊎ ((clipped.second ≡ cut) × (t ≡ false) × (u ≡ true))

clipped_ends_by : (t u : Bool) (s clipped : Segment) (cut : ClipVertex) → clip_to_line t u s cut ≡ Some clipped
    → AreClipped t u s clipped cut
unfolding clip_to_line
clipped_ends_by true true s clipped cut e = absurd (cc)
clipped_ends_by true false s clipped cut e =
    record { first = inr (first_end s e, refl, refl); second = inl (second_end s e) }
clipped_ends_by false true s clipped cut e =
    record { first = inl (first_end s e); second = inr (second_end s e, refl, refl) }
clipped_ends_by false false s clipped cut e =
    record { first = inl (first_end s e); second = inl (second_end s e) }

pub clip_low_is : (s t : Segment) (limit : ℤ) → clip_low s limit ≡ Some t → IsClipped s t limit CutLow
unfolding clip_low
clip_low_is s t limit e =
    let ends = clipped_ends_by (int_lt s.first.side limit) (int_lt s.second.side limit) s t (crossing s.first s.second limit CutLow) e in
    record {
      first = ⊎_elim (λ old. inl old)
          (λ new. inr (new.0, inl (below_is_most _ _ (is_below s.first.side limit new.1), not_above s.second.side limit new.2)))
          ends.first;
      second = ⊎_elim (λ old. inl old)
          (λ new. inr (new.0, inr (below_is_most _ _ (is_below s.second.side limit new.2), not_above s.first.side limit new.1)))
          ends.second;
    }

pub clip_high_is : (s t : Segment) (limit : ℤ) → clip_high s limit ≡ Some t → IsClipped s t limit CutHigh
unfolding clip_high
clip_high_is s t limit e =
    let ends = clipped_ends_by (int_lt limit s.first.side) (int_lt limit s.second.side) s t (crossing s.first s.second limit CutHigh) e in
    record {
      first = ⊎_elim (λ old. inl old)
          (λ new. inr (new.0, inr (not_above limit s.second.side new.2, below_is_most _ _ (is_below limit s.first.side new.1))))
          ends.first;
      second = ⊎_elim (λ old. inl old)
          (λ new. inr (new.0, inl (not_above limit s.first.side new.1, below_is_most _ _ (is_below limit s.second.side new.2))))
          ends.second;
    }

low_ends : (s : Segment) (limit : ℤ) → EachEnd (λ v. limit ≤ℤ v.side) (clip_low s limit)
unfolding clip_low crossing
low_ends s limit =
    kept_ends (λ v. limit ≤ℤ v.side) (int_lt s.first.side limit) (int_lt s.second.side limit) s (crossing s.first s.second limit CutLow)
    (not_above _ _) (not_above _ _) (omega (arith, ints))

high_ends : (s : Option Segment) (side : ℤ) → pos 0 ≤ℤ side → EachEnd (λ v. neg_ℤ side ≤ℤ v.side) s
    → EachEnd (LiesWithin side) (then_clip_high s side)
unfolding clip_high crossing
high_ends None side some low = tt
high_ends (Some s) side some low =
    kept_ends (LiesWithin side) (int_lt side s.first.side) (int_lt side s.second.side) s (crossing s.first s.second side CutHigh)
    (λ e. (low.0, not_above _ _ e)) (λ e. (low.1, not_above _ _ e)) (omega (arith, ints), omega (arith, ints))

-- ---- both sides

clipped_ends : (s : Segment) (side : ℤ) → pos 0 ≤ℤ side → EachEnd (LiesWithin side) (clip s side)
unfolding clip
clipped_ends s side some = high_ends (clip_low s (neg_ℤ side)) side some (low_ends s (neg_ℤ side))

pub clipped_within : (s t : Segment) (side : ℤ) → pos 0 ≤ℤ side → clip s side ≡ Some t → HasEndsWithin side t
clipped_within s t side some e = let P = EachEnd (LiesWithin side) in subst P e (clipped_ends s side some)

-- an edge above a lower limit stays as it is, and so does one below an upper limit
low_whole : (s : Segment) (limit : ℤ) → limit ≤ℤ s.first.side → limit ≤ℤ s.second.side → clip_low s limit ≡ Some s
unfolding clip_low clip_to_line
low_whole s limit first second = rw (tests_above s.first.side limit first, tests_above s.second.side limit second) refl

high_whole : (s : Segment) (limit : ℤ) → s.first.side ≤ℤ limit → s.second.side ≤ℤ limit → clip_high s limit ≡ Some s
unfolding clip_high clip_to_line
high_whole s limit first second = rw (tests_above limit s.first.side first, tests_above limit s.second.side second) refl

pub clipped_whole : (s : Segment) (side : ℤ) → HasEndsWithin side s → clip s side ≡ Some s
unfolding clip
clipped_whole s side h = rw (low_whole s (neg_ℤ side) h.0.0 h.1.0) (high_whole s side h.0.1 h.1.1)

-- ---- nothing left

clipped_below : (s : Segment) (side : ℤ) → HasEndsBelow side s → clip s side ≡ None
unfolding clip clip_low clip_to_line
clipped_below s side h = rw (tests_below s.first.side (neg_ℤ side) h.0, tests_below s.second.side (neg_ℤ side) h.1) refl

high_nothing : (s : Segment) (limit : ℤ) → limit <ℤ s.first.side → limit <ℤ s.second.side → clip_high s limit ≡ None
unfolding clip_high clip_to_line
high_nothing s limit first second = rw (tests_below limit s.first.side first, tests_below limit s.second.side second) refl

clipped_above : (s : Segment) (side : ℤ) → pos 0 ≤ℤ side → HasEndsAbove side s → clip s side ≡ None
unfolding clip
clipped_above s side some h =
    rw (low_whole s (neg_ℤ side) (omega (arith, ints, h.0)) (omega (arith, ints, h.1))) (high_nothing s side h.0 h.1)

-- both ends are above an upper limit that leaves nothing
above_high : (s : Segment) (side : ℤ) → clip_high s side ≡ None → HasEndsAbove side s
unfolding clip_high
above_high s side e =
    let tests = kept_nothing (int_lt side s.first.side) (int_lt side s.second.side) s (crossing s.first s.second side CutHigh) e in
    (is_below side s.first.side tests.0, is_below side s.second.side tests.1)

-- a crossing with the low side isn't above the high side
not_cut : (side : ℤ) → pos 0 ≤ℤ side → side <ℤ neg_ℤ side → ⊥
not_cut side some h = omega (arith, ints)

outside : (s : Segment) (side : ℤ) → pos 0 ≤ℤ side → clip s side ≡ None → HasEndsBelow side s ⊎ HasEndsAbove side s
unfolding clip clip_low crossing clip_to_line
outside s side some none = by (int_lt s.first.side (neg_ℤ side)) (int_lt s.second.side (neg_ℤ side)) refl refl none
  where
    by : (t u : Bool) → int_lt s.first.side (neg_ℤ side) ≡ t → int_lt s.second.side (neg_ℤ side) ≡ u
        → then_clip_high (clip_to_line t u s (crossing s.first s.second (neg_ℤ side) CutLow)) side ≡ None
        → HasEndsBelow side s ⊎ HasEndsAbove side s
    by true true e f none = inl (is_below s.first.side (neg_ℤ side) e, is_below s.second.side (neg_ℤ side) f)
    by true false e f none = absurd (not_cut side some (above_high _ side none).0)
    by false true e f none = absurd (not_cut side some (above_high _ side none).1)
    by false false e f none = inr (above_high s side none)

pub clipped_nothing : (s : Segment) (side : ℤ) → pos 0 ≤ℤ side → (clip s side ≡ None) ↔ (HasEndsBelow side s ⊎ HasEndsAbove side s)
clipped_nothing s side some = (outside s side some, ⊎_elim (clipped_below s side) (clipped_above s side some))
