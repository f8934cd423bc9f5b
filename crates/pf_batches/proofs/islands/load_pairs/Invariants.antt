use Rattle.std.proofs.Common.{◌≡◌, length, map, take}
use Rattle.pf_levels.specs.Levels.{pair_of}
use Rattle.pf_batches.specs.Islands.{batch_of}
use Rattle.pf_batches.proofs.islands.load_pairs.Given as goal

abbrev pub invariant-loop-island : goal.invariant-loop-island
invariant-loop-island l = record {
  count : l.count ≡ length (batch_of (take l.island-index l.islands)).bodies;
  pairs : l.pairs.items ≡ map pair_of (batch_of (take l.island-index l.islands)).rows;
}
