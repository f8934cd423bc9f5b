use Rattle.std.proofs.Common.{◌≡◌, ◌-◌, drop, length}
use Rattle.pf_rollback.specs.Snapshots.{settled_world, world_before_all}
use Rattle.pf_rollback.proofs.snapshots.Snapshots.recent_at.Given as goal

abbrev pub invariant-loop-place : goal.invariant-loop-place
invariant-loop-place l = record {
  world : l.world ≡ world_before_all (drop (length l.self-inside.recent.items - l.place) l.self-inside.recent.items) (settled_world l.self);
}
