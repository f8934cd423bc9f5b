use Rattle.std.proofs.Common.{◌≡◌, ◌≤◌, ◌++◌, All, IsTrue, drop, length, map, take, vec_capacity, vec_len}
use Rattle.std.specs.List.{flat_map}
use Rattle.pf_cache.specs.Slots.{carried_slot, slot_touches}
use Rattle.pf_cache.proofs.CarriedSlots.{ReadsFrom}
use Rattle.pf_cache.proofs.carrying.carried_slots.Given as goal

abbrev pub invariant-loop-pair : goal.invariant-loop-pair
invariant-loop-pair l = record {
  within : l.place ≤ length l.old;
  behind : All (ReadsFrom l.old l.place) (drop l.pair-index l.pairs);
  made : l.slots.items ≡ map (carried_slot l.old) (take l.pair-index l.pairs);
  points : IsTrue l.has_all
      → flat_map slot_touches l.slots.items ++ flat_map slot_touches (drop l.place l.old) ≡ flat_map slot_touches l.old;
  count : vec_len l.slots ≡ l.pair-index;
  room : length l.pairs ≤ vec_capacity l.slots;
}
