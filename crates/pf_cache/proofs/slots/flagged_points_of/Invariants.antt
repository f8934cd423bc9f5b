use Rattle.std.proofs.Common.{◌≡◌, ◌≤◌, ◌*◌, length, take}
use Rattle.std.specs.List.{flat_map}
use Rattle.pf_cache.specs.Points.{flagged_points}
use Rattle.pf_cache.specs.Slots.{slot_touches}
use Rattle.pf_cache.proofs.slots.flagged_points_of.Given as goal

abbrev pub invariant-loop-slot : goal.invariant-loop-slot
invariant-loop-slot l = record {
  few : l.place ≤ 2 * l.slot-index;
  place : l.place ≡ length (flat_map slot_touches (take l.slot-index l.slots));
  points : l.points.items ≡ flagged_points l.flags (flat_map slot_touches (take l.slot-index l.slots));
}
