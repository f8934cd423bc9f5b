use Rattle.std.proofs.Common.{drop, rules}
use Rattle.std.specs.List.{flat_map}
use Rattle.std.proofs.lemmas.Bool.{and_parts}
use Rattle.pf_cache.specs.Slots.{carried_slot, slot_touches}
use Rattle.pf_cache.proofs.CarriedSlots.{behind_more, made_more, points_more}
use Rattle.pf_cache.proofs.PairRanks.{pairs_rise}
use Rattle.pf_cache.proofs.carrying.carried_slots.Goals as goal

pub loop-pair-preserved : goal.loop-pair-preserved
loop-pair-preserved c =
    let p = c.pair-item.result in
    let old = c.args.old.now in
    let pairs = c.args.pairs.now in
    let i = c.loop-pair.pair-index in
    let place = c.loop-pair.place in
    let inv = c.loop-pair.invariant in
    let passed = c.advance_to-passed.result in
    let next = c.push_carried-place.result in
    let slots = c.loop-pair.slots.items in
    let after = c.push_carried-place.new.slots.items in
    record {
      within = c.push_carried-place.ensures.within;
      behind = behind_more old pairs i place passed.end p c.loop-pair-test.true c.pair-item.is inv.behind c.advance_to-passed.ensures.same
          next c.push_carried-place.ensures.later (pairs_rise pairs c.requires.ascending c.requires.pairs);
      made = made_more old pairs i place passed.end p c.loop-pair-test.true c.pair-item.is inv.behind c.advance_to-passed.ensures.same
          slots after inv.made c.push_carried-place.ensures.items;
      points = λ all.
          let both = and_parts c.loop-pair.has_all passed.are_empty all in
          points_more slots after (carried_slot (drop passed.end old) p) (flat_map slot_touches (drop next old))
          (flat_map slot_touches (drop passed.end old)) (flat_map slot_touches (drop place old)) (flat_map slot_touches old)
          c.push_carried-place.ensures.items c.push_carried-place.ensures.touches (c.advance_to-passed.ensures.empty both.1) (inv.points both.0);
      count = search rules;
      room = search rules;
    }
