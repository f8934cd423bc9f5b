use Rattle.std.proofs.Common.{◌≡◌, ◌∙◌, ◌+◌, ◌∷◌, ◌++◌, [], All, ap, arith, filter, get_or, length, refl, subst, sym, true≢false}
use Rattle.std.specs.List.{enumerate_from, flat_map}
use Rattle.pf_shapes.specs.Pair.{IsPairOf}
use Rattle.pf_shapes.specs.declared.scene.TheConstants.{MAX_BODIES}
use Rattle.pf_manifold.specs.Touches.{IsTouchOf}
use Rattle.pf_cache.specs.Live.{HasOwnTouches, is_live}
use Rattle.pf_cache.specs.Points.{flagged_points}
use Rattle.pf_cache.specs.Slots.{slot_touches}
use Rattle.pf_cache.proofs.PlacedPoints.{All-back, All-front, none_of_all, of_all}
use Rattle.pf_cache.proofs.FewTouches.{up_to}
use Rattle.pf_cache.proofs.SlotPlaces.{at_next, count_more, count_one, no_place, others_left, slot_next, started, walked_next, within_next}
use Rattle.pf_cache.proofs.Watching.{is_taken, more_points, same_points}
use Rattle.pf_cache.proofs.slots.flagged_points_of_live.Goals as goal

pub loop-live_place-init : goal.loop-live_place-init
loop-live_place-init c = (
  started (is_live c.args.live.now.watched.items) c.args.live.now.places.items c.args.slots.now c.requires.live,
  (refl, ap (λ ps. ps) c.new-points.ensures.items),
)

pub offset_bounds-slots-live_place : goal.offset_bounds-slots-live_place
offset_bounds-slots-live_place c =
    let live = is_live c.args.live.now.watched.items in
    let places = c.args.live.now.places.items in
    let slots = c.args.slots.now in
    let l = c.loop-live_place in
    let walked = l.invariant.0 in
    let at = at_next live places slots l.live_place-index walked c.deref-live_place-items.result.now no_place c.deref-live_place-items.ensures.value c.loop-live_place-test.true in
    let inside = within_next live places slots l.live_place-index walked _ at in
    omega (arith, inside)

pub bounds-slots-live_place : goal.bounds-slots-live_place
bounds-slots-live_place c =
    let live = is_live c.args.live.now.watched.items in
    let places = c.args.live.now.places.items in
    let slots = c.args.slots.now in
    let l = c.loop-live_place in
    let walked = l.invariant.0 in
    let at = at_next live places slots l.live_place-index walked c.deref-live_place-items.result.now no_place c.deref-live_place-items.ensures.value c.loop-live_place-test.true in
    let inside = within_next live places slots l.live_place-index walked _ at in
    inside

pub overflow_add-place : goal.overflow_add-place
overflow_add-place c =
    let live = is_live c.args.live.now.watched.items in
    let places = c.args.live.now.places.items in
    let slots = c.args.slots.now in
    let l = c.loop-live_place in
    let walked = l.invariant.0 in
    let at = at_next live places slots l.live_place-index walked c.deref-live_place-items.result.now no_place c.deref-live_place-items.ensures.value c.loop-live_place-test.true in
    let sum = count_more walked.front at.others l.end _ l.invariant.1.0 at.skipped_is in
    let room = up_to slots (walked.front ++ at.others) at.slot at.behind at.whole c.requires.few in
    omega (arith, sum, room)

pub overflow_add-end : goal.overflow_add-end
overflow_add-end c =
    let live = is_live c.args.live.now.watched.items in
    let places = c.args.live.now.places.items in
    let slots = c.args.slots.now in
    let l = c.loop-live_place in
    let walked = l.invariant.0 in
    let at = at_next live places slots l.live_place-index walked c.deref-live_place-items.result.now no_place c.deref-live_place-items.ensures.value c.loop-live_place-test.true in
    let sum = count_more walked.front at.others l.end _ l.invariant.1.0 at.skipped_is in
    let room = up_to slots (walked.front ++ at.others) at.slot at.behind at.whole c.requires.few in
    let slot_is = c.index-slots-live_place.is ∙ slot_next live places slots l.live_place-index walked _ at c.index-slots-live_place.result in
    let count = c.count.ensures.count ∙ ap (λ x. length (slot_touches x)) slot_is in
    omega (arith, sum, room, count)

pub push_flagged-requires-clause-number : goal.push_flagged-requires-clause-number
push_flagged-requires-clause-number c =
    let live = is_live c.args.live.now.watched.items in
    let places = c.args.live.now.places.items in
    let slots = c.args.slots.now in
    let l = c.loop-live_place in
    let walked = l.invariant.0 in
    let at = at_next live places slots l.live_place-index walked c.deref-live_place-items.result.now no_place c.deref-live_place-items.ensures.value c.loop-live_place-test.true in
    let sum = count_more walked.front at.others l.end _ l.invariant.1.0 at.skipped_is in
    let room = up_to slots (walked.front ++ at.others) at.slot at.behind at.whole c.requires.few in
    let slot_is = c.index-slots-live_place.is ∙ slot_next live places slots l.live_place-index walked _ at c.index-slots-live_place.result in
    let count = ap (λ x. length (slot_touches x)) slot_is in
    omega (arith, sum, room, count)

pub push_flagged-requires-clause-pair : goal.push_flagged-requires-clause-pair
push_flagged-requires-clause-pair c =
    let live = is_live c.args.live.now.watched.items in
    let places = c.args.live.now.places.items in
    let slots = c.args.slots.now in
    let l = c.loop-live_place in
    let walked = l.invariant.0 in
    let at = at_next live places slots l.live_place-index walked c.deref-live_place-items.result.now no_place c.deref-live_place-items.ensures.value c.loop-live_place-test.true in
    let inside = within_next live places slots l.live_place-index walked _ at in
    subst (λ s. IsPairOf MAX_BODIES s.pair) (sym c.index-slots-live_place.is) (c.requires.pairs _ c.index-slots-live_place.result inside)

pub push_flagged-requires-clause-flags : goal.push_flagged-requires-clause-flags
push_flagged-requires-clause-flags c =
    let live = is_live c.args.live.now.watched.items in
    let places = c.args.live.now.places.items in
    let slots = c.args.slots.now in
    let l = c.loop-live_place in
    let walked = l.invariant.0 in
    let at = at_next live places slots l.live_place-index walked c.deref-live_place-items.result.now no_place c.deref-live_place-items.ensures.value c.loop-live_place-test.true in
    let inside = within_next live places slots l.live_place-index walked _ at in
    subst (λ s. All (IsTouchOf (length c.args.flags.now)) (slot_touches s)) (sym c.index-slots-live_place.is)
    (of_all (IsTouchOf (length c.args.flags.now)) slots _ c.index-slots-live_place.result inside c.requires.flags)

pub returns-in_err-push_flagged-clause-no_memory : goal.returns-in_err-push_flagged-clause-no_memory
returns-in_err-push_flagged-clause-no_memory c =
    let live = is_live c.args.live.now.watched.items in
    let places = c.args.live.now.places.items in
    let slots = c.args.slots.now in
    let l = c.loop-live_place in
    let walked = l.invariant.0 in
    let at = at_next live places slots l.live_place-index walked c.deref-live_place-items.result.now no_place c.deref-live_place-items.ensures.value c.loop-live_place-test.true in
    let inside = within_next live places slots l.live_place-index walked _ at in
    λ none.
    absurd (true≢false (sym (c.in_err-push_flagged.ensures.no_memory
    (ap slot_touches c.index-slots-live_place.is ∙ none_of_all slots _ c.index-slots-live_place.result inside none))))

pub loop-live_place-preserved : goal.loop-live_place-preserved
loop-live_place-preserved c =
    let live = is_live c.args.live.now.watched.items in
    let places = c.args.live.now.places.items in
    let slots = c.args.slots.now in
    let l = c.loop-live_place in
    let walked = l.invariant.0 in
    let at = at_next live places slots l.live_place-index walked c.deref-live_place-items.result.now no_place c.deref-live_place-items.ensures.value c.loop-live_place-test.true in
    let inside = within_next live places slots l.live_place-index walked _ at in
    let s = c.index-slots-live_place.result in
    let slot_is : s ≡ at.slot = c.index-slots-live_place.is ∙ slot_next live places slots l.live_place-index walked _ at s in
    let place = l.end + (get_or c.deref-live_place-items.result.now l.live_place-index no_place).skipped in
    let place_is : place ≡ length (flat_map slot_touches (walked.front ++ at.others)) =
    count_more walked.front at.others l.end _ l.invariant.1.0 at.skipped_is in
    let flags = c.args.flags.now in
    let watched = c.args.live.now.watched.items in
    let before = walked.front ++ at.others in
    let own = All-back HasOwnTouches walked.front at.others
    (All-front HasOwnTouches before (at.slot ∷ at.behind) (subst (All HasOwnTouches) at.whole c.requires.own)) in
    let more = ap (λ n. place + n) c.count.ensures.count in (
      walked_next live places slots l.live_place-index walked _ at,
      (
        more ∙ count_more before (at.slot ∷ []) place (length (slot_touches s)) place_is (ap (λ x. length (slot_touches x)) slot_is ∙ count_one at.slot),
        c.in_ok-push_flagged.ensures.added
            ∙ (λ k. (l.invariant.1.1 ∙ sym (same_points flags watched c.requires.watched walked.front at.others own at.fail)) k
            ++ filter (is_taken flags) (enumerate_from place (slot_touches (slot_is k))))
            ∙ sym (more_points flags before at.slot place place_is),
      ),
    )

pub returns-clause-value : goal.returns-clause-value
returns-clause-value c =
    let watched = c.args.live.now.watched.items in
    let slots = c.args.slots.now in
    let l = c.loop-live_place in
    let walked = l.invariant.0 in
    let own = All-back HasOwnTouches walked.front walked.rest (subst (All HasOwnTouches) walked.whole c.requires.own) in
    let others = others_left (is_live watched) c.args.live.now.places.items slots l.live_place-index walked
    c.deref-live_place-items.result.now c.deref-live_place-items.ensures.value c.loop-live_place-test.false in
    l.invariant.1.1
    ∙ sym (ap (λ ss. flagged_points c.args.flags.now (flat_map slot_touches ss)) walked.whole
    ∙ same_points c.args.flags.now watched c.requires.watched walked.front walked.rest own others)
