-- The contact points of live slots.
use Rattle.std.proofs.Common.{◌≡◌, ◌+◌, ◌==◌, ◌||◌, ◌∷◌, ◌++◌, [], ℕ, Bool, true, false, Option, Some, None, List, length, map, filter, get_or, ap, sym, ◌∙◌, refl, arith, append-nil, eqb-true, true≢false}
use Rattle.std.proofs.lemmas.Bool.{and_parts, or_parts}
use Rattle.std.proofs.lemmas.List.Concat.{flat_map-append}
use Rattle.std.proofs.lemmas.List.Elements.{All-head, All-tail, All-weaker, filter-append}
use Rattle.std.specs.List.{enumerate_from, flat_map}
use Rattle.std.specs.Prelude.{All, is_some, unwrap_or, if◌then◌else◌}
use Rattle.pf_shapes.specs.Bounds.{Bounds}
use Rattle.pf_broad.specs.Pairs.{pair_may_touch}
use Rattle.pf_manifold.specs.PlacedShape.{PlacedShape}
use Rattle.pf_manifold.specs.Touches.{Touch}
use Rattle.pf_cache.specs.Live.{AreWatched, HasOwnTouches, is_live}
use Rattle.pf_cache.specs.Manifolds.{points_of_pair}
use Rattle.pf_cache.specs.Points.{flagged_points, is_flagged}
use Rattle.pf_cache.specs.Slots.{IsFreshUnlessLive, HasSoundPoints, Slot, is_of_pair, slot_of, slot_places, slot_touches}
use Rattle.pf_cache.proofs.PlacedPoints.{enumerate-append}

-- ---- contact points along the walk

module _ (flags : List Bool) where
  abbrev pub is_taken : ℕ × Touch → Bool
  is_taken m = is_flagged flags m.1

  none_taken : (place : ℕ) (ts : List Touch) → All (λ t. is_flagged flags t ≡ false) ts → filter is_taken (enumerate_from place ts) ≡ []
  none_taken place [] none = refl
  none_taken place (t ∷ ts) none =
      rw (All-head (λ x. is_flagged flags x ≡ false) t ts none)
      (none_taken (place + 1) ts (All-tail (λ x. is_flagged flags x ≡ false) t ts none))

  module _ (watched : List Bool) (are : AreWatched watched flags) where
    -- those of a slot that is not live have no flag
    unflagged : (s : Slot) → HasOwnTouches s → is_live watched s ≡ false → All (λ t. is_flagged flags t ≡ false) (slot_touches s)
    unflagged s own other =
        let parts = or_parts (get_or watched s.pair.a false) (get_or watched s.pair.b false) other in
        let first = are s.pair.a parts.0 in
        let second = are s.pair.b parts.1 in
        All-weaker (λ t. is_of_pair s.pair t ≡ true) (λ t. is_flagged flags t ≡ false)
        (λ t h.
        let ends = and_parts (t.a == s.pair.a) (t.b == s.pair.b) h in
        let a_is = eqb-true t.a s.pair.a ends.0 in
        let b_is = eqb-true t.b s.pair.b ends.1 in
        (λ k. get_or flags (a_is k) false || get_or flags (b_is k) false) ∙ (λ k. first k || second k))
        (slot_touches s) own

    none_of_others : (place : ℕ) (slots : List Slot) → All HasOwnTouches slots → All (λ s. is_live watched s ≡ false) slots
        → filter is_taken (enumerate_from place (flat_map slot_touches slots)) ≡ []
    none_of_others place [] own others = refl
    none_of_others place (s ∷ slots) own others =
        let here = none_taken place (slot_touches s)
        (unflagged s (All-head HasOwnTouches s slots own) (All-head (λ x. is_live watched x ≡ false) s slots others)) in
        let behind = none_of_others (place + length (slot_touches s)) slots (All-tail HasOwnTouches s slots own)
        (All-tail (λ x. is_live watched x ≡ false) s slots others) in
        ap (filter is_taken) (enumerate-append place (slot_touches s) (flat_map slot_touches slots))
        ∙ filter-append is_taken (enumerate_from place (slot_touches s)) (enumerate_from (place + length (slot_touches s)) (flat_map slot_touches slots))
        ∙ (λ k. here k ++ behind k)

    -- slots that are not live add no point
    pub same_points : (front others : List Slot) → All HasOwnTouches others → All (λ s. is_live watched s ≡ false) others
        → flagged_points flags (flat_map slot_touches (front ++ others)) ≡ flagged_points flags (flat_map slot_touches front)
    same_points front others own unlive =
        let fore = flat_map slot_touches front in
        let behind = flat_map slot_touches others in
        ap (λ ts. filter is_taken (enumerate_from 0 ts)) (flat_map-append slot_touches front others)
        ∙ ap (filter is_taken) (enumerate-append 0 fore behind)
        ∙ filter-append is_taken (enumerate_from 0 fore) (enumerate_from (0 + length fore) behind)
        ∙ ap (λ l. filter is_taken (enumerate_from 0 fore) ++ l) (none_of_others (0 + length fore) others own unlive)
        ∙ append-nil (filter is_taken (enumerate_from 0 fore))

  -- a slot adds its own
  pub more_points : (front : List Slot) (s : Slot) (place : ℕ) → place ≡ length (flat_map slot_touches front)
      → flagged_points flags (flat_map slot_touches (front ++ s ∷ []))
      ≡ flagged_points flags (flat_map slot_touches front) ++ filter is_taken (enumerate_from place (slot_touches s))
  more_points front s place place_is =
      let fore = flat_map slot_touches front in
      let from : 0 + length fore ≡ place = omega (arith, place_is) in
      ap (λ ts. filter is_taken (enumerate_from 0 ts))
      (flat_map-append slot_touches front (s ∷ []) ∙ ap (λ l. fore ++ l) (append-nil (slot_touches s)))
      ∙ ap (filter is_taken) (enumerate-append 0 fore (slot_touches s))
      ∙ filter-append is_taken (enumerate_from 0 fore) (enumerate_from (0 + length fore) (slot_touches s))
      ∙ ap (λ n. filter is_taken (enumerate_from 0 fore) ++ filter is_taken (enumerate_from n (slot_touches s))) from

-- ---- the slots that are brought up to date

module _ (bounds : List Bounds) (unmoved watched : List Bool) (shapes : List PlacedShape) where
  -- one that is not live has the points that it had
  same_touches : (s : Slot) → IsFreshUnlessLive bounds unmoved watched s → HasSoundPoints shapes unmoved s → is_live watched s ≡ false
      → slot_touches (slot_of bounds shapes s.pair) ≡ slot_touches s
  same_touches s stayed kept other =
      let right = stayed other in by s.touches (pair_may_touch bounds s.pair) right.0 (kept right.1)
    where
      by : (o : Option (List Touch)) (m : Bool) → is_some o ≡ m → (is_some o ≡ true → o ≡ Some (points_of_pair shapes s.pair))
          → unwrap_or (if m then Some (points_of_pair shapes s.pair) else None) [] ≡ unwrap_or o []
      by None false e k = refl
      by None true e k = absurd (true≢false (sym e))
      by (Some x) true e k = sym (ap (λ o. unwrap_or o []) (k refl))
      by (Some x) false e k = absurd (true≢false e)

  -- so the same ones are live
  pub still_live : (slots : List Slot) (place skipped : ℕ) → All (IsFreshUnlessLive bounds unmoved watched) slots → All (HasSoundPoints shapes unmoved) slots
      → slot_places (is_live watched) place skipped slots ≡ slot_places (is_live watched) place skipped (map (slot_of bounds shapes) (map (λ s. s.pair) slots))
  still_live [] place skipped stayed kept = refl
  still_live (s ∷ slots) place skipped stayed kept =
      by (is_live watched s) refl (λ p n. still_live slots p n (All-tail (IsFreshUnlessLive bounds unmoved watched) s slots stayed)
      (All-tail (HasSoundPoints shapes unmoved) s slots kept))
    where
      now : List Slot
      now = map (slot_of bounds shapes) (map (λ x. x.pair) slots)

      by : (b : Bool) → is_live watched s ≡ b → ((p n : ℕ) → slot_places (is_live watched) p n slots ≡ slot_places (is_live watched) p n now)
          → (if b then record { place = place; skipped = skipped } ∷ slot_places (is_live watched) (place + 1) 0 slots
          else slot_places (is_live watched) (place + 1) (skipped + length (slot_touches s)) slots)
          ≡ (if b then record { place = place; skipped = skipped } ∷ slot_places (is_live watched) (place + 1) 0 now
          else slot_places (is_live watched) (place + 1) (skipped + length (slot_touches (slot_of bounds shapes s.pair))) now)
      by true h rest = ap (λ l. record { place = place; skipped = skipped } ∷ l) (rest (place + 1) 0)
      by false h rest =
          rest (place + 1) (skipped + length (slot_touches s))
          ∙ ap (λ ts. slot_places (is_live watched) (place + 1) (skipped + length ts) now)
          (sym (same_touches s (All-head (IsFreshUnlessLive bounds unmoved watched) s slots stayed) (All-head (HasSoundPoints shapes unmoved) s slots kept) h))
