use Rattle.std.proofs.Common.{◌≤◌, ◌+◌, ◌-◌, length, drop, vec_capacity, vec_len}
use Rattle.pf_broad.specs.Enlarged.{has_one_of, pairs_without}
use Rattle.pf_broad.specs.Pairs.{pairs}
use Rattle.pf_broad.proofs.Merging.{IsMerged}
use Rattle.pf_broad.proofs.candidates.merge.Given as goal

abbrev pub invariant-loop-i : goal.invariant-loop-i
invariant-loop-i l = record {
  within : l.i ≤ length l.candidates;
  next_within : l.next ≤ length l.fresh.items;
  pairs : IsMerged (has_one_of l.left) (pairs l.enlarged) l.merged.items (drop l.next l.fresh.items) (pairs_without l.left (drop l.i l.candidates));
  count : vec_len l.merged ≤ l.i + l.next;
  room : length l.candidates + length l.fresh.items ≤ vec_capacity l.merged;
}

abbrev pub decreases-loop-i : goal.decreases-loop-i
decreases-loop-i l = (length l.candidates - l.i) + (length l.fresh.items - l.next)
