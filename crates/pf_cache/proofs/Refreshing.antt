-- Slots are brought up to date one after the other.
use Rattle.std.proofs.Common.{◌≡◌, ◌∷◌, ◌++◌, [], ℕ, Bool, true, false, cond, not, ◌&&◌, Option, Some, None, List, length, map, filter, get_or, slice_set, ap, sym, ◌∙◌, refl, true≢false, append-nil}
use Rattle.std.proofs.lemmas.List.{append_assoc, length-map, map-append}
use Rattle.std.proofs.lemmas.List.Elements.{All-head, All-tail, filter-append}
use Rattle.std.proofs.Math.Seq.{get_or-append_seam, set-append_seam}
use Rattle.std.specs.Prelude.{All, is_some, if◌then◌else◌}
use Rattle.pf_shapes.specs.Bounds.{Bounds}
use Rattle.pf_shapes.specs.Pair.{Pair}
use Rattle.pf_broad.specs.Pairs.{pair_may_touch}
use Rattle.pf_manifold.specs.PlacedShape.{PlacedShape}
use Rattle.pf_manifold.specs.Touches.{Touch}
use Rattle.pf_cache.specs.Live.{is_live}
use Rattle.pf_cache.specs.Manifolds.{points_of_pair}
use Rattle.pf_cache.specs.Slots.{IsFreshUnlessLive, HasSoundPoints, Slot, are_unmoved, pairs_to_compute, needs_points, is_stale, refreshed_slot, slot_of}

-- ---- one slot

module _ (bounds : List Bounds) (unmoved : List Bool) (s : Slot) where
  -- one that has contact points exactly if its bounds overlap, and whose bodies are unmoved, is up to date
  not_stale : is_some s.touches ≡ pair_may_touch bounds s.pair → are_unmoved unmoved s.pair ≡ true → is_stale bounds unmoved s ≡ false
  not_stale = by (pair_may_touch bounds s.pair) (is_some s.touches) (are_unmoved unmoved s.pair)
    where
      by : (m o u : Bool) → o ≡ m → u ≡ true → (if m then not (o && u) else o) ≡ false
      by true true true e h = refl
      by true true false e h = absurd (true≢false (sym h))
      by true false u e h = absurd (true≢false (sym e))
      by false o u e h = e

  -- the points of one that is up to date need not be computed, those of another if its bounds overlap
  pub not_computed : is_stale bounds unmoved s ≡ false → needs_points bounds unmoved s ≡ false
  not_computed = by (pair_may_touch bounds s.pair) (is_some s.touches) (are_unmoved unmoved s.pair)
    where
      by : (m o u : Bool) → (if m then not (o && u) else o) ≡ false → (m && not (o && u)) ≡ false
      by true o u e = e
      by false o u e = refl

  pub computed_if : is_stale bounds unmoved s ≡ true → needs_points bounds unmoved s ≡ pair_may_touch bounds s.pair
  computed_if = by (pair_may_touch bounds s.pair) (is_some s.touches) (are_unmoved unmoved s.pair)
    where
      by : (m o u : Bool) → (if m then not (o && u) else o) ≡ true → (m && not (o && u)) ≡ m
      by true o u e = e
      by false o u e = refl

-- ---- the pairs whose points have to be computed

module _ (bounds : List Bounds) (unmoved : List Bool) where
  none_computed : (slots : List Slot) → All (λ s. is_stale bounds unmoved s ≡ false) slots → pairs_to_compute bounds unmoved slots ≡ []
  none_computed [] fresh = refl
  none_computed (s ∷ slots) fresh =
      rw (not_computed bounds unmoved s (All-head (λ x. is_stale bounds unmoved x ≡ false) s slots fresh))
      (none_computed slots (All-tail (λ x. is_stale bounds unmoved x ≡ false) s slots fresh))

  pairs-append : (front rest : List Slot) → pairs_to_compute bounds unmoved (front ++ rest) ≡ pairs_to_compute bounds unmoved front ++ pairs_to_compute bounds unmoved rest
  pairs-append front rest =
      ap (map (λ (s : Slot). s.pair)) (filter-append (needs_points bounds unmoved) front rest)
      ∙ map-append (λ (s : Slot). s.pair) (filter (needs_points bounds unmoved) front) (filter (needs_points bounds unmoved) rest)

  pub same_pairs : (front others : List Slot) → All (λ s. is_stale bounds unmoved s ≡ false) others
      → pairs_to_compute bounds unmoved (front ++ others) ≡ pairs_to_compute bounds unmoved front
  same_pairs front others fresh =
      pairs-append front others ∙ ap (λ l. pairs_to_compute bounds unmoved front ++ l) (none_computed others fresh)
      ∙ append-nil (pairs_to_compute bounds unmoved front)

  pub pairs_here : (s : Slot) (behind : List Slot) → is_stale bounds unmoved s ≡ true
      → pairs_to_compute bounds unmoved (s ∷ behind)
      ≡ (if pair_may_touch bounds s.pair then s.pair ∷ pairs_to_compute bounds unmoved behind else pairs_to_compute bounds unmoved behind)
  pairs_here s behind stale = rw (computed_if bounds unmoved s stale) (by (pair_may_touch bounds s.pair))
    where
      by : (b : Bool) → map (λ (x : Slot). x.pair) (cond b (s ∷ filter (needs_points bounds unmoved) behind) (filter (needs_points bounds unmoved) behind))
          ≡ (if b then s.pair ∷ pairs_to_compute bounds unmoved behind else pairs_to_compute bounds unmoved behind)
      by true = refl
      by false = refl

  -- from the next stale slot on
  pub pairs_next : (others : List Slot) (s : Slot) (behind : List Slot) → All (λ x. is_stale bounds unmoved x ≡ false) others → is_stale bounds unmoved s ≡ true
      → pairs_to_compute bounds unmoved (others ++ s ∷ behind)
      ≡ (if pair_may_touch bounds s.pair then s.pair ∷ pairs_to_compute bounds unmoved behind else pairs_to_compute bounds unmoved behind)
  pairs_next others s behind fresh stale =
      pairs-append others (s ∷ behind) ∙ ap (λ l. l ++ pairs_to_compute bounds unmoved (s ∷ behind)) (none_computed others fresh) ∙ pairs_here s behind stale

  pub pairs_more : (front : List Slot) (s : Slot) (more : List Pair) → is_stale bounds unmoved s ≡ true
      → more ≡ pairs_to_compute bounds unmoved front ++ (if pair_may_touch bounds s.pair then s.pair ∷ [] else [])
      → more ≡ pairs_to_compute bounds unmoved (front ++ s ∷ [])
  pairs_more front s more stale more_is =
      more_is ∙ sym (pairs-append front (s ∷ []) ∙ ap (λ l. pairs_to_compute bounds unmoved front ++ l) (pairs_here s [] stale))

  -- slots whose bodies are not watched are up to date
  pub fresh_of : (watched : List Bool) (slots : List Slot) → All (IsFreshUnlessLive bounds unmoved watched) slots
      → All (λ s. is_live watched s ≡ false) slots → All (λ s. is_stale bounds unmoved s ≡ false) slots
  fresh_of watched slots stayed others = λ k d below.
      let right = stayed k d below (others k d below) in
      not_stale bounds unmoved (get_or slots k d) right.0 right.1

-- ---- a walk along the slots that pass a test

-- a slot that stays as it is where it fails the test
module _ (f : Slot → Slot) (t : Slot → Bool) (stays : (s : Slot) → t s ≡ false → f s ≡ s) where
  same_all : (slots : List Slot) → All (λ s. t s ≡ false) slots → map f slots ≡ slots
  same_all [] fail = refl
  same_all (s ∷ slots) fail =
      (λ k. stays s (All-head (λ x. t x ≡ false) s slots fail) k ∷ same_all slots (All-tail (λ x. t x ≡ false) s slots fail) k)

  module _ (front others : List Slot) (fail : All (λ s. t s ≡ false) others) where
    pub same_front : map f (front ++ others) ≡ map f front ++ others
    same_front = map-append f front others ∙ ap (λ l. map f front ++ l) (same_all others fail)

    -- in the end all others fail
    pub slots_left : (old slots : List Slot) → old ≡ front ++ others → slots ≡ map f front ++ others → slots ≡ map f old
    slots_left old slots old_is slots_are = slots_are ∙ sym same_front ∙ ap (map f) (sym old_is)

    -- a slot after them
    module _ (s : Slot) (behind slots : List Slot) (are : slots ≡ map f front ++ (others ++ s ∷ behind)) (place : ℕ) (place_is : place ≡ length (front ++ others)) where
      at : place ≡ length (map f (front ++ others))
      at = place_is ∙ sym (length-map (front ++ others) f)

      slots_here : slots ≡ map f (front ++ others) ++ s ∷ behind
      slots_here = are ∙ sym (append_assoc (map f front) others (s ∷ behind)) ∙ ap (λ l. l ++ s ∷ behind) (sym same_front)

      pub slot_here : (e : Slot) → get_or slots place e ≡ s
      slot_here e = (λ k. get_or (slots_here k) (at k) e) ∙ get_or-append_seam (map f (front ++ others)) s behind e

      pub slots_more : (now : Slot) → now ≡ f s → slice_set slots place now ≡ map f ((front ++ others) ++ s ∷ []) ++ behind
      slots_more now now_is =
          (λ k. slice_set (slots_here k) (at k) (now_is k)) ∙ set-append_seam (map f (front ++ others)) s behind (f s)
          ∙ sym (append_assoc (map f (front ++ others)) (f s ∷ []) behind)
          ∙ ap (λ l. l ++ behind) (sym (map-append f (front ++ others) (s ∷ [])))

-- ---- all slots in the end

module _ (bounds : List Bounds) (unmoved : List Bool) (shapes : List PlacedShape) where
  pub refreshed_stays : (s : Slot) → is_stale bounds unmoved s ≡ false → refreshed_slot bounds unmoved shapes s ≡ s
  refreshed_stays s fresh = rw fresh refl

  pub refreshed_stale : (s : Slot) → is_stale bounds unmoved s ≡ true → refreshed_slot bounds unmoved shapes s ≡ slot_of bounds shapes s.pair
  refreshed_stale s stale = rw stale refl

  one : (s : Slot) → HasSoundPoints shapes unmoved s → refreshed_slot bounds unmoved shapes s ≡ slot_of bounds shapes s.pair
  one s kept = by s.touches (pair_may_touch bounds s.pair) (are_unmoved unmoved s.pair) refl refl
    where
      by : (o : Option (List Touch)) (m u : Bool) → s.touches ≡ o → are_unmoved unmoved s.pair ≡ u
          → ◌≡◌ {A = Slot} (if (if m then not (is_some o && u) else is_some o) then record { pair = s.pair; touches = if m then Some (points_of_pair shapes s.pair) else None }
          else record { pair = s.pair; touches = o })
          (record { pair = s.pair; touches = if m then Some (points_of_pair shapes s.pair) else None })
      by None true u e h = refl
      by (Some x) true false e h = refl
      by (Some x) true true e h =
          let right : Some x ≡ Some (points_of_pair shapes s.pair) = sym e ∙ kept h (ap is_some e) in
          λ k. record { pair = s.pair; touches = right k }
      by None false u e h = refl
      by (Some x) false u e h = refl

  -- they have the points of their bodies
  pub all_refreshed : (slots : List Slot) → All (HasSoundPoints shapes unmoved) slots
      → map (refreshed_slot bounds unmoved shapes) slots ≡ map (slot_of bounds shapes) (map (λ (s : Slot). s.pair) slots)
  all_refreshed [] kept = refl
  all_refreshed (s ∷ slots) kept =
      (λ k. one s (All-head (HasSoundPoints shapes unmoved) s slots kept) k ∷ all_refreshed slots (All-tail (HasSoundPoints shapes unmoved) s slots kept) k)
