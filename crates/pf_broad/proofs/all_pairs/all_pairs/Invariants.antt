use Rattle.std.proofs.Common.{◌≡◌}
use Rattle.std.specs.List.{flat_map, range_with_len}
use Rattle.pf_broad.specs.Pairs.{pairs_of}
use Rattle.pf_broad.proofs.all_pairs.all_pairs.Given as goal

abbrev pub invariant-loop-i : goal.invariant-loop-i
invariant-loop-i l = l.found.items ≡ flat_map (pairs_of l.bounds) (range_with_len 0 l.i)
