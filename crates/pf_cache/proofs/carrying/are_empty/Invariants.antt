use Rattle.std.proofs.Common.{◌≡◌, drop}
use Rattle.std.specs.List.{flat_map}
use Rattle.pf_cache.specs.Slots.{slot_touches}
use Rattle.pf_cache.proofs.carrying.are_empty.Given as goal

abbrev pub invariant-loop-slot : goal.invariant-loop-slot
invariant-loop-slot l = flat_map slot_touches (drop l.slot-index l.slots) ≡ flat_map slot_touches l.slots
