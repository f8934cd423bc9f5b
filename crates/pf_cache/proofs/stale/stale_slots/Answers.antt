use Rattle.std.proofs.Common.{◌≡◌, ◌∙◌, ◌+◌, ◌∷◌, [], ◌++◌, All, ap, arith, false, length, refl, subst, sym, true}
use Rattle.std.proofs.lemmas.List.Elements.{All-cons, All-nil}
use Rattle.std.specs.Prelude.{if◌then◌else◌}
use Rattle.pf_broad.specs.Pairs.{pair_may_touch}
use Rattle.pf_shapes.specs.Pair.{IsPairOf}
use Rattle.pf_cache.specs.Live.{is_live}
use Rattle.pf_cache.specs.Slots.{IsFreshUnlessLive, Slot, pairs_to_compute, is_stale, is_stale_if, slot_places, slot_touches}
use Rattle.pf_cache.proofs.FewTouches.{up_to}
use Rattle.pf_cache.proofs.PlacedPoints.{All-back, All-front}
use Rattle.pf_cache.proofs.Refreshing.{fresh_of, pairs_more, same_pairs}
use Rattle.pf_cache.proofs.SlotPlaces.{at_next, count_more, more_skipped, no_place, others_left, place_fails, place_passes, same_places, skipped_fails, skipped_passes, skipped_within, slot_next, started, walked_next, within_next}
use Rattle.pf_cache.proofs.stale.stale_slots.Goals.{then-is_stale+in_ok-push_if+in_ok-push, else-is_stale}
use Rattle.pf_cache.proofs.stale.stale_slots.Goals as goal

pub loop-live_place-init : goal.loop-live_place-init
loop-live_place-init c = (
  started (is_live c.args.live.now.watched.items) c.args.live.now.places.items c.args.slots.now c.requires.live,
  record { places = c.in_ok-places.ensures.items; skipped = refl; pairs = c.in_ok-pairs.ensures.items },
)

pub offset_bounds-slots-place : goal.offset_bounds-slots-place
offset_bounds-slots-place c =
    let live = is_live c.args.live.now.watched.items in
    let l = c.loop-live_place in
    let at = at_next live c.args.live.now.places.items c.args.slots.now l.live_place-index l.invariant.0
    c.deref-live_place-items.result.now no_place c.deref-live_place-items.ensures.value c.loop-live_place-test.true in
    let inside = within_next live c.args.live.now.places.items c.args.slots.now l.live_place-index l.invariant.0 _ at in
    omega (arith, inside)

pub bounds-slots-place : goal.bounds-slots-place
bounds-slots-place c =
    let live = is_live c.args.live.now.watched.items in
    let l = c.loop-live_place in
    let at = at_next live c.args.live.now.places.items c.args.slots.now l.live_place-index l.invariant.0
    c.deref-live_place-items.result.now no_place c.deref-live_place-items.ensures.value c.loop-live_place-test.true in
    within_next live c.args.live.now.places.items c.args.slots.now l.live_place-index l.invariant.0 _ at

pub pair_may_touch-overlap-requires : goal.pair_may_touch-overlap-requires
pair_may_touch-overlap-requires c =
    let live = is_live c.args.live.now.watched.items in
    let l = c.loop-live_place in
    let at = at_next live c.args.live.now.places.items c.args.slots.now l.live_place-index l.invariant.0
    c.deref-live_place-items.result.now no_place c.deref-live_place-items.ensures.value c.loop-live_place-test.true in
    let inside = within_next live c.args.live.now.places.items c.args.slots.now l.live_place-index l.invariant.0 _ at in
    let slot_is = c.pair-pair.ensures ∙ ap (λ (s : Slot). s.pair) c.index-slots-place.is in
    subst (IsPairOf (length c.args.bounds.now)) (sym slot_is) (c.requires.pairs _ c.index-slots-place.result inside)

pub overflow_add-skipped : goal.overflow_add-skipped
overflow_add-skipped c =
    let stale = is_stale c.args.bounds.now c.args.unmoved.items in
    let l = c.loop-live_place in
    let walked = l.invariant.0 in
    let at = at_next (is_live c.args.live.now.watched.items) c.args.live.now.places.items c.args.slots.now l.live_place-index walked
    c.deref-live_place-items.result.now no_place c.deref-live_place-items.ensures.value c.loop-live_place-test.true in
    let so_far = l.invariant.1.skipped in
    let within = skipped_within stale 0 walked.front in
    let skipped_is = at.skipped_is in
    let sum = count_more walked.front at.others _ _ refl refl in
    let room = up_to c.args.slots.now (walked.front ++ at.others) at.slot at.behind at.whole c.requires.touches in
    omega (arith, so_far, within, skipped_is, sum, room)

pub overflow_add-skipped-else-is_stale : goal.overflow_add-skipped-else-is_stale
overflow_add-skipped-else-is_stale c =
    let stale = is_stale c.args.bounds.now c.args.unmoved.items in
    let l = c.loop-live_place in
    let walked = l.invariant.0 in
    let at = at_next (is_live c.args.live.now.watched.items) c.args.live.now.places.items c.args.slots.now l.live_place-index walked
    c.deref-live_place-items.result.now no_place c.deref-live_place-items.ensures.value c.loop-live_place-test.true in
    let so_far = l.invariant.1.skipped in
    let within = skipped_within stale 0 walked.front in
    let skipped_is = at.skipped_is in
    let sum = count_more walked.front at.others _ _ refl refl in
    let room = up_to c.args.slots.now (walked.front ++ at.others) at.slot at.behind at.whole c.requires.touches in
    let few = c.count-skipped.ensures.few in
    omega (arith, so_far, within, skipped_is, sum, room, few)

pub loop-live_place-preserved : goal.loop-live_place-preserved
loop-live_place-preserved c =
    let bounds = c.args.bounds.now in
    let unmoved = c.args.unmoved.items in
    let watched = c.args.live.now.watched.items in
    let stale = is_stale bounds unmoved in
    let l = c.loop-live_place in
    let walked = l.invariant.0 in
    let at = at_next (is_live watched) c.args.live.now.places.items c.args.slots.now l.live_place-index walked
    c.deref-live_place-items.result.now no_place c.deref-live_place-items.ensures.value c.loop-live_place-test.true in
    let fore = walked.front ++ at.others in
    let s = at.slot in
    let slot_is : c.index-slots-place.result ≡ s =
    c.index-slots-place.is ∙ slot_next (is_live watched) c.args.live.now.places.items c.args.slots.now l.live_place-index walked _ at c.index-slots-place.result in
    let pair_is = c.pair-pair.ensures ∙ ap (λ (x : Slot). x.pair) slot_is in
    let here = c.pair_may_touch-overlap.ensures ∙ ap (pair_may_touch bounds) pair_is in
    let overlap_is = ap (pair_may_touch bounds) (sym c.pair-pair.ensures) ∙ sym c.pair_may_touch-overlap.ensures in
    let stayed = All-back (IsFreshUnlessLive bounds unmoved watched) walked.front at.others
    (All-front (IsFreshUnlessLive bounds unmoved watched) fore (s ∷ at.behind) (subst (All (IsFreshUnlessLive bounds unmoved watched)) at.whole c.requires.others)) in
    let fresh = fresh_of bounds unmoved watched at.others stayed at.fail in
    let place_is = at.place_is in
    let skipped_is = (λ k. l.invariant.1.skipped k + at.skipped_is k) ∙ sym (more_skipped stale walked.front at.others fresh) in
    let places_are = l.invariant.1.places ∙ sym (same_places stale walked.front at.others fresh) in
    let pairs_are = l.invariant.1.pairs ∙ sym (same_pairs bounds unmoved walked.front at.others fresh) in (
      walked_next (is_live watched) c.args.live.now.places.items c.args.slots.now l.live_place-index walked _ at,
      elim c.if-is_stale.branch [
        | then-is_stale+in_ok-push_if+in_ok-push w ↦
            let stale_is : stale s ≡ true = ap stale (sym slot_is) ∙ (λ k. is_stale_if (overlap_is k) (sym c.deref.ensures.value k) c.index-slots-place.result) ∙ sym c.is_stale.ensures ∙ w.if-is_stale.true in
            record {
              places = (λ k. (w.places-is k).items) ∙ w.in_ok-push.ensures.items
                  ∙ (λ k. places_are k ++ record { place = place_is k; skipped = skipped_is k } ∷ [])
                  ∙ sym (place_passes stale fore s stale_is);
              skipped = w.skipped-is ∙ sym (skipped_passes stale fore s stale_is);
              pairs = (λ k. (w.pairs-is k).items)
                  ∙ pairs_more bounds unmoved fore s _ stale_is
                  (w.in_ok-push_if.ensures ∙ (λ k. pairs_are k ++ (if here k then pair_is k ∷ [] else [])));
            }
        | else-is_stale w ↦
            let fresh_is : stale s ≡ false = ap stale (sym slot_is) ∙ (λ k. is_stale_if (overlap_is k) (sym c.deref.ensures.value k) c.index-slots-place.result) ∙ sym c.is_stale.ensures ∙ w.if-is_stale.false in
            record {
              places = (λ k. (w.places-is k).items) ∙ places_are ∙ sym (place_fails stale fore s fresh_is);
              skipped = w.skipped-is
                  ∙ (λ k. skipped_is k + (w.count-skipped.ensures.count ∙ ap (λ x. length (slot_touches x)) slot_is) k)
                  ∙ sym (skipped_fails stale fore s fresh_is);
              pairs = (λ k. (w.pairs-is k).items) ∙ pairs_are ∙ sym (same_pairs bounds unmoved fore (s ∷ []) (All-cons (λ x. stale x ≡ false) s [] fresh_is (All-nil (λ x. stale x ≡ false))));
            }
      ],
    )

pub returns-clause-stale : goal.returns-clause-stale
returns-clause-stale c =
    let bounds = c.args.bounds.now in
    let unmoved = c.args.unmoved.items in
    let watched = c.args.live.now.watched.items in
    let stale = is_stale bounds unmoved in
    let l = c.loop-live_place in
    let walked = l.invariant.0 in
    let stayed = All-back (IsFreshUnlessLive bounds unmoved watched) walked.front walked.rest (subst (All (IsFreshUnlessLive bounds unmoved watched)) walked.whole c.requires.others) in
    let fresh = fresh_of bounds unmoved watched walked.rest stayed
    (others_left (is_live watched) c.args.live.now.places.items c.args.slots.now l.live_place-index walked
    c.deref-live_place-items.result.now c.deref-live_place-items.ensures.value c.loop-live_place-test.false) in
    record {
      listed = l.invariant.1.places ∙ sym (ap (slot_places stale 0 0) walked.whole ∙ same_places stale walked.front walked.rest fresh);
      computed = l.invariant.1.pairs ∙ sym (ap (pairs_to_compute bounds unmoved) walked.whole ∙ same_pairs bounds unmoved walked.front walked.rest fresh);
    }
