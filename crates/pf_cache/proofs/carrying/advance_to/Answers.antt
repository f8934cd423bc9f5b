use Rattle.std.proofs.Common.{◌≤◌, arith, subst}
use Rattle.pf_cache.specs.Slots.{pair_rank}
use Rattle.pf_cache.proofs.CarriedSlots.{slot_rank}
use Rattle.pf_cache.proofs.RankedLists.{all_reached}
use Rattle.pf_cache.proofs.carrying.advance_to.Goals as goal

pub returns-then-not-has_lower_rank-clause-reached : goal.returns-then-not-has_lower_rank-clause-reached
returns-then-not-has_lower_rank-clause-reached c =
    let s = c.index-old-place.result in
    let here : pair_rank c.args.pair.now ≤ slot_rank s = grind arith in
    all_reached slot_rank c.args.old.now c.loop-place.place (pair_rank c.args.pair.now) s c.loop-place-test.true c.requires.rising
    (subst (λ x. pair_rank c.args.pair.now ≤ slot_rank x) c.index-old-place.is here)
