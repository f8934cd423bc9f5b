use Rattle.std.proofs.Common.{◌∙◌, ◌+◌, All, ap, arith, length, subst, sym, true≢false}
use Rattle.pf_manifold.specs.Touches.{IsTouchOf}
use Rattle.pf_cache.specs.Slots.{slot_touches}
use Rattle.pf_cache.proofs.PlacedPoints.{none_of_all, of_all, place_next, points_next}
use Rattle.pf_cache.proofs.slots.flagged_points_of.Goals as goal

pub push_flagged-requires-clause-flags : goal.push_flagged-requires-clause-flags
push_flagged-requires-clause-flags c =
    subst (λ s. All (IsTouchOf (length c.args.flags.now)) (slot_touches s)) (sym c.slot-item.is)
    (of_all (IsTouchOf (length c.args.flags.now)) c.args.slots.now c.loop-slot.slot-index c.slot-item.result c.loop-slot-test.true c.requires.flags)

pub returns-in_err-push_flagged-clause-no_memory : goal.returns-in_err-push_flagged-clause-no_memory
returns-in_err-push_flagged-clause-no_memory c = λ none.
    absurd (true≢false (sym (c.in_err-push_flagged.ensures.no_memory
    (ap slot_touches c.slot-item.is ∙ none_of_all c.args.slots.now c.loop-slot.slot-index c.slot-item.result c.loop-slot-test.true none))))

pub loop-slot-preserved : goal.loop-slot-preserved
loop-slot-preserved c =
    let slots = c.args.slots.now in
    let i = c.loop-slot.slot-index in
    let s = c.slot-item.result in
    let count_is = c.count-count.ensures.count in
    let few = c.count-count.ensures.few in
    let so_far = c.loop-slot.invariant.few in
    record {
      few = omega (arith, so_far, few);
      place = ap (λ n. c.loop-slot.place + n) count_is ∙ place_next c.args.flags.now slots i s s c.loop-slot-test.true c.slot-item.is c.loop-slot.place c.loop-slot.invariant.place;
      points = points_next c.args.flags.now slots i s s c.loop-slot-test.true c.slot-item.is c.loop-slot.place c.loop-slot.points.items _
          c.loop-slot.invariant.place c.loop-slot.invariant.points c.in_ok-push_flagged.ensures.added;
    }
