use Rattle.std.proofs.Common.{◌≡◌, ◌-◌, take, drop, length}
use Rattle.circular_buffer.specs.Buffer.{buffer}
use Rattle.pf_rollback.specs.Snapshots.{world_before_all}
use Rattle.pf_rollback.proofs.snapshots.undo_last.Given as goal

abbrev pub invariant-loop : goal.invariant-loop
invariant-loop l = record {
  world : l.world ≡ world_before_all (drop (length l.fn.recent.items - l.counter) l.fn.recent.items) l.fn.world;
  recent : l.recent ≡ buffer (take (length l.fn.recent.items - l.counter) l.fn.recent.items) l.fn.recent.capacity;
}
