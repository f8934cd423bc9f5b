use Rattle.std.proofs.Common.{◌≡◌, ◌≤◌, ◌-◌}
use Rattle.pf_rollback.specs.Core.{count_after}
use Rattle.pf_rollback.specs.Snapshots.{kept_world}
use Rattle.pf_rollback.proofs.simulate.simulate_from.Given as goal

abbrev pub invariant-loop-at : goal.invariant-loop-at
invariant-loop-at l = record {
  later : l.snapshots.horizon ≤ l.at;
  world : l.world ≡ kept_world l.scene l.commands l.snapshots l.at;
  ticks : l.work.meter.ticks ≡ count_after l.fn.work.meter.ticks (l.at - l.from);
}
