use Rattle.std.proofs.Common.{◌≡◌, ◌∙◌, ◌+◌, ◌++◌, [], Option, ap, arith, length, map, refl, subst, sym}
use Rattle.std.proofs.lemmas.List.{length-map}
use Rattle.std.specs.List.{flat_map}
use Rattle.std.specs.Prelude.{IfSome}
use Rattle.pf_shapes.specs.Pair.{IsPairOf}
use Rattle.pf_shapes.specs.declared.scene.TheConstants.{MAX_BODIES}
use Rattle.pf_broad.specs.Pairs.{pair_may_touch}
use Rattle.pf_manifold.specs.Key.{key_of}
use Rattle.pf_manifold.specs.declared.manifold.Manifold.{Manifold}
use Rattle.pf_cache.specs.KeySplices.{AreSplicesUpTo}
use Rattle.pf_cache.specs.Slots.{Slot, pairs_to_compute, is_stale, manifold_touches, refreshed_slot, slot_of, slot_touches}
use Rattle.pf_cache.specs.Stale.{AreNextPoints}
use Rattle.pf_cache.proofs.SplicesMade.{no_splices_so_far}
use Rattle.pf_cache.proofs.FewTouches.{up_to}
use Rattle.pf_cache.proofs.Filling.{Follow, Next, both_if_some, first_points_are, if_some}
use Rattle.pf_cache.proofs.RefreshSteps.{ascend_here, splices_in_the_end, splices_now, pair_here, pairs_here, slot_now, slots_now}
use Rattle.pf_cache.specs.Manifolds.{points_of_pair}
use Rattle.pf_cache.proofs.Refreshing.{refreshed_stale, refreshed_stays, slots_left}
use Rattle.pf_cache.proofs.SlotPlaces.{at_next, count_more, no_place, others_left, started, walked_next, within_next}
use Rattle.pf_cache.proofs.stale.refresh_slots.Goals as goal

-- a slot with these contact points
abbrev with_points : Option Manifold → Slot → Slot
with_points points s = record s { touches = manifold_touches s.pair points }

pub loop-place-init : goal.loop-place-init
loop-place-init c = (
  started (is_stale c.args.bounds.now c.args.stale.now.unmoved.items) c.args.stale.now.places.items c.args.slots.now c.requires.stale.listed,
  record {
    slots = refl;
    next = if_some c.args.collided.now
        (λ touches are.
        first_points_are c.args.shapes.now touches.items (pairs_to_compute c.args.bounds.now c.args.stale.now.unmoved.items c.args.slots.now)
        (are ∙ ap (flat_map (points_of_pair c.args.shapes.now)) c.requires.stale.computed))
        c.requires.collided;
    splices =
        subst (λ e. AreSplicesUpTo e 0 [] []) (sym c.new-splices.ensures) no_splices_so_far;
  },
)

pub offset_bounds-slots-place : goal.offset_bounds-slots-place
offset_bounds-slots-place c =
    let stale = is_stale c.args.bounds.now c.args.stale.now.unmoved.items in
    let places = c.args.stale.now.places.items in
    let l = c.loop-place in
    let at = at_next stale places c.args.slots.now l.place-index l.invariant.0 c.deref-place-items.result.now no_place c.deref-place-items.ensures.value c.loop-place-test.true in
    let inside = within_next stale places c.args.slots.now l.place-index l.invariant.0 _ at in
    omega (arith, inside)

pub bounds-slots-place : goal.bounds-slots-place
bounds-slots-place c =
    let stale = is_stale c.args.bounds.now c.args.stale.now.unmoved.items in
    let places = c.args.stale.now.places.items in
    let l = c.loop-place in
    let at = at_next stale places c.args.slots.now l.place-index l.invariant.0 c.deref-place-items.result.now no_place c.deref-place-items.ensures.value c.loop-place-test.true in
    let inside = within_next stale places c.args.slots.now l.place-index l.invariant.0 _ at in
    let long = l.auto.slots in
    omega (arith, inside, long)

pub points_at-points-requires-clause-pair : goal.points_at-points-requires-clause-pair
points_at-points-requires-clause-pair c =
    let bounds = c.args.bounds.now in
    let unmoved = c.args.stale.now.unmoved.items in
    let shapes = c.args.shapes.now in
    let places = c.args.stale.now.places.items in
    let old = c.args.slots.now in
    let l = c.loop-place in
    let walked = l.invariant.0 in
    let at = at_next (is_stale bounds unmoved) places old l.place-index walked c.deref-place-items.result.now no_place c.deref-place-items.ensures.value c.loop-place-test.true in
    let slot_is = slot_now bounds unmoved shapes places old l.place-index walked _ at l.slots l.invariant.1.slots c.index-slots-place.result in
    subst (IsPairOf (length shapes)) (sym (c.pair.ensures ∙ ap (λ (s : Slot). s.pair) slot_is))
    (pair_here bounds unmoved shapes places old l.place-index walked _ at (length shapes) c.requires.pairs)

pub points_at-points-requires-clause-next : goal.points_at-points-requires-clause-next
points_at-points-requires-clause-next c =
    let bounds = c.args.bounds.now in
    let unmoved = c.args.stale.now.unmoved.items in
    let shapes = c.args.shapes.now in
    let places = c.args.stale.now.places.items in
    let old = c.args.slots.now in
    let l = c.loop-place in
    let walked = l.invariant.0 in
    let at = at_next (is_stale bounds unmoved) places old l.place-index walked c.deref-place-items.result.now no_place c.deref-place-items.ensures.value c.loop-place-test.true in
    let slot_is = slot_now bounds unmoved shapes places old l.place-index walked _ at l.slots l.invariant.1.slots c.index-slots-place.result in
    let later = pairs_to_compute bounds unmoved at.behind in
    let pair_is = c.pair.ensures ∙ ap (λ (s : Slot). s.pair) slot_is in
    subst (λ p. IfSome c.args.collided.now (λ touches. Next shapes touches.items l.start p (pair_may_touch bounds p))) (sym pair_is)
    (if_some c.args.collided.now
    (λ touches are. (
      later,
      ascend_here bounds unmoved shapes places old l.place-index walked _ at c.requires.ascending,
      subst (AreNextPoints shapes touches.items l.start) (pairs_here bounds unmoved shapes places old l.place-index walked _ at) are,
    ))
    l.invariant.1.next)

pub replace-requires-clause-pair : goal.replace-requires-clause-pair
replace-requires-clause-pair c =
    let bounds = c.args.bounds.now in
    let unmoved = c.args.stale.now.unmoved.items in
    let shapes = c.args.shapes.now in
    let places = c.args.stale.now.places.items in
    let old = c.args.slots.now in
    let l = c.loop-place in
    let walked = l.invariant.0 in
    let at = at_next (is_stale bounds unmoved) places old l.place-index walked c.deref-place-items.result.now no_place c.deref-place-items.ensures.value c.loop-place-test.true in
    let slot_is = slot_now bounds unmoved shapes places old l.place-index walked _ at l.slots l.invariant.1.slots c.index-slots-place.result in
    subst (λ (s : Slot). IsPairOf MAX_BODIES s.pair) (sym slot_is)
    (let here = pair_here bounds unmoved shapes places old l.place-index walked _ at (length shapes) c.requires.pairs in
    let few = c.requires.few in
    (here.0, omega (arith, here.1, few)))

pub overflow_add-kept : goal.overflow_add-kept
overflow_add-kept c =
    let bounds = c.args.bounds.now in
    let unmoved = c.args.stale.now.unmoved.items in
    let shapes = c.args.shapes.now in
    let places = c.args.stale.now.places.items in
    let old = c.args.slots.now in
    let l = c.loop-place in
    let walked = l.invariant.0 in
    let at = at_next (is_stale bounds unmoved) places old l.place-index walked c.deref-place-items.result.now no_place c.deref-place-items.ensures.value c.loop-place-test.true in
    let kept_is = l.invariant.1.splices.1 in
    let keys = length-map (flat_map slot_touches walked.front) key_of in
    let skipped_is = at.skipped_is in
    let sum = count_more walked.front at.others _ _ refl refl in
    let room = up_to old (walked.front ++ at.others) at.slot at.behind at.whole c.requires.touches in
    omega (arith, kept_is, keys, skipped_is, sum, room)

pub replace-requires-clause-room : goal.replace-requires-clause-room
replace-requires-clause-room c =
    let bounds = c.args.bounds.now in
    let unmoved = c.args.stale.now.unmoved.items in
    let shapes = c.args.shapes.now in
    let places = c.args.stale.now.places.items in
    let old = c.args.slots.now in
    let l = c.loop-place in
    let walked = l.invariant.0 in
    let at = at_next (is_stale bounds unmoved) places old l.place-index walked c.deref-place-items.result.now no_place c.deref-place-items.ensures.value c.loop-place-test.true in
    let slot_is = slot_now bounds unmoved shapes places old l.place-index walked _ at l.slots l.invariant.1.slots c.index-slots-place.result in
    let kept_is = l.invariant.1.splices.1 in
    let keys = length-map (flat_map slot_touches walked.front) key_of in
    let skipped_is = at.skipped_is in
    let sum = count_more walked.front at.others _ _ refl refl in
    let room = up_to old (walked.front ++ at.others) at.slot at.behind at.whole c.requires.touches in
    let count = ap (λ (s : Slot). length (slot_touches s)) slot_is in
    omega (arith, kept_is, keys, skipped_is, sum, room, count)

pub loop-place-preserved : goal.loop-place-preserved
loop-place-preserved c =
    let bounds = c.args.bounds.now in
    let unmoved = c.args.stale.now.unmoved.items in
    let shapes = c.args.shapes.now in
    let places = c.args.stale.now.places.items in
    let old = c.args.slots.now in
    let l = c.loop-place in
    let walked = l.invariant.0 in
    let at = at_next (is_stale bounds unmoved) places old l.place-index walked c.deref-place-items.result.now no_place c.deref-place-items.ensures.value c.loop-place-test.true in
    let slot_is = slot_now bounds unmoved shapes places old l.place-index walked _ at l.slots l.invariant.1.slots c.index-slots-place.result in
    let later = pairs_to_compute bounds unmoved at.behind in
    let pair_is = c.pair.ensures ∙ ap (λ (s : Slot). s.pair) slot_is in
    let up = ascend_here bounds unmoved shapes places old l.place-index walked _ at c.requires.ascending in
    let points = c.points_at-points.result.0 in
    let touches_are = subst (λ p. manifold_touches p points ≡ (slot_of bounds shapes p).touches) pair_is c.points_at-points.ensures.points in
    let new_is : c.replace.new.self ≡ refreshed_slot bounds unmoved shapes at.slot =
    c.in_ok-kept.ensures.slot ∙ ap (with_points points) slot_is
    ∙ (λ k. record { pair = at.slot.pair; touches = touches_are k }) ∙ sym (refreshed_stale bounds unmoved shapes at.slot at.passes) in (
      walked_next (is_stale bounds unmoved) places old l.place-index walked _ at,
      record {
        slots = slots_now bounds unmoved shapes places old l.place-index walked _ at l.slots l.invariant.1.slots c.replace.new.self new_is;
        next = both_if_some c.args.collided.now
            (λ touches follow are.
            subst (λ p. Follow shapes touches.items l.start c.points_at-points.result.1 p (pair_may_touch bounds p)) pair_is follow later up
            (subst (AreNextPoints shapes touches.items l.start) (pairs_here bounds unmoved shapes places old l.place-index walked _ at) are))
            c.points_at-points.ensures.next l.invariant.1.next;
        splices = splices_now bounds unmoved shapes places old l.place-index walked _ at l.splices c.replace.new.splices l.kept c.in_ok-kept.kept c.replace.new.self
            l.invariant.1.splices new_is
            (λ before after are.
            subst (λ s. AreSplicesUpTo c.replace.new.splices c.in_ok-kept.kept (before ++ map key_of (slot_touches s)) (after ++ map key_of (slot_touches c.replace.new.self))) slot_is
            (c.in_ok-kept.ensures.splices before after are));
      },
    )

pub returns-clause-slots : goal.returns-clause-slots
returns-clause-slots c =
    let bounds = c.args.bounds.now in
    let unmoved = c.args.stale.now.unmoved.items in
    let stale = is_stale bounds unmoved in
    let places = c.args.stale.now.places.items in
    let l = c.loop-place in
    let walked = l.invariant.0 in
    let fail = others_left stale places c.args.slots.now l.place-index walked c.deref-place-items.result.now c.deref-place-items.ensures.value c.loop-place-test.false in
    slots_left (refreshed_slot bounds unmoved c.args.shapes.now) stale (refreshed_stays bounds unmoved c.args.shapes.now) walked.front walked.rest fail c.args.slots.now l.slots walked.whole l.invariant.1.slots

pub returns-clause-splices : goal.returns-clause-splices
returns-clause-splices c =
    let l = c.loop-place in
    splices_in_the_end c.args.bounds.now c.args.stale.now.unmoved.items c.args.shapes.now c.args.stale.now.places.items c.args.slots.now l.place-index l.invariant.0
    l.splices l.kept l.slots l.invariant.1.splices l.invariant.1.slots
