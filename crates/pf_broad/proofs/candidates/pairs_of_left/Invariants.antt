use Rattle.std.proofs.Common.{◌≡◌, filter}
use Rattle.std.specs.List.{flat_map, range_with_len}
use Rattle.pf_broad.specs.Enlarged.{has_one_of}
use Rattle.pf_broad.specs.Pairs.{pairs_of}
use Rattle.pf_broad.proofs.candidates.pairs_of_left.Given as goal

abbrev pub invariant-loop-i : goal.invariant-loop-i
invariant-loop-i l = l.fresh.items ≡ filter (has_one_of l.left) (flat_map (pairs_of l.enlarged) (range_with_len 0 l.i))
