use Rattle.std.proofs.Common.{◌≡◌, ◌≤◌, length, take, drop}
use Rattle.pf_workers.specs.Dealing.{AreSharesFrom}
use Rattle.pf_workers.proofs.stack.deal.Given as goal

abbrev pub invariant-loop-island : goal.invariant-loop-island
invariant-loop-island l = record {
  rest : l.islands.items ≡ take (length l.islands.items) l.initial.islands.items;
  few : length l.islands.items ≤ length l.initial.islands.items;
  shares : AreSharesFrom (length l.islands.items) (drop (length l.islands.items) l.initial.islands.items) l.stacks.items;
  count : length l.stacks.items ≡ length l.initial.stacks.items;
}

abbrev pub decreases-loop-island : goal.decreases-loop-island
decreases-loop-island l = length l.islands.items
