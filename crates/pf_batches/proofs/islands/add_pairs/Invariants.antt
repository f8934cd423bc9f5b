use Rattle.std.proofs.Common.{◌≡◌, ◌++◌, take}
use Rattle.pf_batches.specs.Islands.{pairs_behind}
use Rattle.pf_batches.proofs.islands.add_pairs.Given as goal

abbrev pub invariant-loop-row : goal.invariant-loop-row
invariant-loop-row l =
    l.pairs.items ≡ l.initial.pairs.items ++ pairs_behind l.count (take l.row-index l.row-items)
