-- A step of the walk along the stale slots, each of which is brought up to date.
use Rattle.std.proofs.Common.{◌≡◌, ◌+◌, ◌∷◌, ◌++◌, [], ℕ, Bool, List, length, map, get_or, slice_set, ap, sym, subst, ◌∙◌, refl}
use Rattle.std.proofs.lemmas.List.{length-map, map-append}
use Rattle.std.specs.List.{flat_map}
use Rattle.std.specs.Prelude.{All, if◌then◌else◌}
use Rattle.pf_shapes.specs.Bounds.{Bounds}
use Rattle.pf_shapes.specs.Pair.{IsAscending, IsPairOf}
use Rattle.pf_broad.specs.Pairs.{pair_may_touch}
use Rattle.pf_manifold.specs.Key.{Key, key_of}
use Rattle.pf_manifold.specs.PlacedShape.{PlacedShape}
use Rattle.pf_cache.specs.declared.slot.SlotPlace.{SlotPlace}
use Rattle.pf_cache.specs.KeySplices.{AreSplicesBetween, AreSplicesUpTo, KeySplices}
use Rattle.pf_cache.specs.Slots.{Slot, pairs_to_compute, needs_points, is_stale, refreshed_slot, slot_touches}
use Rattle.pf_cache.proofs.SplicesMade.{splices_stay, keys-append, keys_more, keys_of}
use Rattle.pf_cache.proofs.Refreshing.{pairs_next, refreshed_stays, same_front, slot_here, slots_more}
use Rattle.pf_cache.proofs.SlotPlaces.{AtNext, Walked, slot_next, within_next}
use Rattle.pf_cache.proofs.Updating.{ascend_after}

module _ (bounds : List Bounds) (unmoved : List Bool) (shapes : List PlacedShape) (places : List SlotPlace) (old : List Slot) (i : ℕ)
    (w : Walked (is_stale bounds unmoved) places old i) where
  -- a slot, brought up to date
  abbrev now : Slot → Slot
  now = refreshed_slot bounds unmoved shapes

  -- those that are left are up to date
  pub splices_in_the_end : (e : KeySplices) (kept : ℕ) (slots : List Slot) → AreSplicesUpTo e kept (keys_of w.front) (keys_of (map now w.front))
      → slots ≡ map now w.front ++ w.rest → AreSplicesBetween e (keys_of old) (keys_of slots)
  splices_in_the_end e kept slots so_far are =
      let stay = splices_stay e kept (length (keys_of w.rest)) (keys_of w.front) (keys_of (map now w.front)) (keys_of w.rest) so_far refl in
      subst (λ ks. AreSplicesBetween e ks (keys_of slots)) (sym (ap keys_of w.whole ∙ keys-append w.front w.rest))
      (subst (AreSplicesBetween e (keys_of w.front ++ keys_of w.rest)) (sym (ap keys_of are ∙ keys-append (map now w.front) w.rest)) stay.0)

  module _ (l : SlotPlace) (at : AtNext (is_stale bounds unmoved) places old i w.front w.rest l) where
    pub pair_here : (n : ℕ) → All (λ s. IsPairOf n s.pair) old → IsPairOf n at.slot.pair
    pair_here n all =
        subst (λ (s : Slot). IsPairOf n s.pair) (slot_next (is_stale bounds unmoved) places old i w l at at.slot)
        (all l.place at.slot (within_next (is_stale bounds unmoved) places old i w l at))

    pub pairs_here : pairs_to_compute bounds unmoved w.rest
        ≡ (if pair_may_touch bounds at.slot.pair then at.slot.pair ∷ pairs_to_compute bounds unmoved at.behind else pairs_to_compute bounds unmoved at.behind)
    pairs_here = ap (pairs_to_compute bounds unmoved) at.rest_is ∙ pairs_next bounds unmoved at.others at.slot at.behind at.fail at.passes

    pub ascend_here : IsAscending (map (λ (s : Slot). s.pair) old) → IsAscending (at.slot.pair ∷ pairs_to_compute bounds unmoved at.behind)
    ascend_here up =
        ascend_after (needs_points bounds unmoved) (w.front ++ at.others) at.slot at.behind
        (subst (λ ss. IsAscending (map (λ (s : Slot). s.pair) ss)) at.whole up)

    module _ (slots : List Slot) (are : slots ≡ map now w.front ++ w.rest) where
      slots_are : slots ≡ map now w.front ++ (at.others ++ at.slot ∷ at.behind)
      slots_are = are ∙ ap (λ r. map now w.front ++ r) at.rest_is

      pub slot_now : (e : Slot) → get_or slots l.place e ≡ at.slot
      slot_now = slot_here now (is_stale bounds unmoved) (refreshed_stays bounds unmoved shapes) w.front at.others at.fail at.slot at.behind slots slots_are l.place at.place_is

      pub slots_now : (s : Slot) → s ≡ now at.slot → slice_set slots l.place s ≡ map now ((w.front ++ at.others) ++ at.slot ∷ []) ++ at.behind
      slots_now = slots_more now (is_stale bounds unmoved) (refreshed_stays bounds unmoved shapes) w.front at.others at.fail at.slot at.behind slots slots_are l.place at.place_is

    pub splices_now : (e next : KeySplices) (kept behind : ℕ) (s : Slot) → AreSplicesUpTo e kept (keys_of w.front) (keys_of (map now w.front)) → s ≡ now at.slot
        → ((before after : List Key) → AreSplicesUpTo e (kept + l.skipped) before after
        → AreSplicesUpTo next behind (before ++ map key_of (slot_touches at.slot)) (after ++ map key_of (slot_touches s)))
        → AreSplicesUpTo next behind (keys_of ((w.front ++ at.others) ++ at.slot ∷ [])) (keys_of (map now ((w.front ++ at.others) ++ at.slot ∷ [])))
    splices_now e next kept behind s so_far s_is more =
        let stay = splices_stay e kept l.skipped (keys_of w.front) (keys_of (map now w.front)) (keys_of at.others) so_far
        (at.skipped_is ∙ sym (length-map (flat_map slot_touches at.others) key_of)) in
        let made = more (keys_of w.front ++ keys_of at.others) (keys_of (map now w.front) ++ keys_of at.others) stay in
        let before : (keys_of w.front ++ keys_of at.others) ++ map key_of (slot_touches at.slot) ≡ keys_of ((w.front ++ at.others) ++ at.slot ∷ []) =
        ap (λ ks. ks ++ map key_of (slot_touches at.slot)) (sym (keys-append w.front at.others)) ∙ sym (keys_more (w.front ++ at.others) at.slot) in
        let after : (keys_of (map now w.front) ++ keys_of at.others) ++ map key_of (slot_touches s) ≡ keys_of (map now ((w.front ++ at.others) ++ at.slot ∷ [])) =
        (λ k. sym (keys-append (map now w.front) at.others) k ++ map key_of (slot_touches (s_is k)))
        ∙ sym (keys_more (map now w.front ++ at.others) (now at.slot))
        ∙ ap keys_of
        (sym (map-append now (w.front ++ at.others) (at.slot ∷ [])
        ∙ ap (λ r. r ++ now at.slot ∷ []) (same_front now (is_stale bounds unmoved) (refreshed_stays bounds unmoved shapes) w.front at.others at.fail))) in
        subst (λ ks. AreSplicesUpTo next behind ks (keys_of (map now ((w.front ++ at.others) ++ at.slot ∷ [])))) before
        (subst (AreSplicesUpTo next behind ((keys_of w.front ++ keys_of at.others) ++ map key_of (slot_touches at.slot))) after made)
