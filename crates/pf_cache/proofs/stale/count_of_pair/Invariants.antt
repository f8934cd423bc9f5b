use Rattle.std.proofs.Common.{◌≡◌, ◌+◌, ◌-◌, ◌≤◌, drop, length}
use Rattle.std.specs.List.{prefix_len}
use Rattle.pf_cache.specs.Slots.{is_of_pair}
use Rattle.pf_cache.proofs.stale.count_of_pair.Given as goal

abbrev pub invariant-loop-end : goal.invariant-loop-end
invariant-loop-end l = record {
  order : l.start ≤ l.end;
  within : l.end ≤ length l.touches;
  count : prefix_len (is_of_pair l.pair) (drop l.start l.touches)
      ≡ (l.end - l.start) + prefix_len (is_of_pair l.pair) (drop l.end l.touches);
}

abbrev pub decreases-loop-end : goal.decreases-loop-end
decreases-loop-end l = length l.touches - l.end
