use Rattle.std.proofs.Common.{◌∙◌, ap, sym, true≢false}
use Rattle.pf_cache.specs.Slots.{slot_touches}
use Rattle.pf_cache.proofs.PlacedPoints.{none_of_all}
use Rattle.pf_cache.proofs.slots.keys_of.Goals as goal

pub returns-in_err-push_keys-clause-no_memory : goal.returns-in_err-push_keys-clause-no_memory
returns-in_err-push_keys-clause-no_memory c = λ none.
    absurd (true≢false (sym (c.in_err-push_keys.ensures.no_memory
    (ap slot_touches c.slot-item.is ∙ none_of_all c.args.slots.now c.loop-slot.slot-index c.slot-item.result c.loop-slot-test.true none))))
