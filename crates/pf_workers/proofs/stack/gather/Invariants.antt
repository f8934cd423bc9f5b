use Rattle.std.proofs.Common.{◌≡◌, ◌++◌, List, length, take, drop}
use Rattle.pf_islands.specs.Split.{Island}
use Rattle.pf_workers.specs.Dealing.{AreShares, AreSharesFrom}
use Rattle.pf_workers.proofs.stack.gather.Given as goal

abbrev pub invariant-loop-number : goal.invariant-loop-number
invariant-loop-number l = record {
  gathered : (all : List Island) → AreShares all l.fn.stacks.items → length all ≡ l.count
      → (l.islands.items ≡ l.initial.islands.items ++ take l.number all) × AreSharesFrom l.number (drop l.number all) l.stacks.items;
  long : length l.stacks.items ≡ length l.fn.stacks.items;
}
