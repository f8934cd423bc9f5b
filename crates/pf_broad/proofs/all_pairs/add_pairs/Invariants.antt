use Rattle.std.proofs.Common.{◌≡◌, ◌++◌, map, take}
use Rattle.pf_broad.specs.Pairs.{pair}
use Rattle.pf_broad.proofs.all_pairs.add_pairs.Given as goal

abbrev pub invariant-loop-j : goal.invariant-loop-j
invariant-loop-j l = l.found.items ≡ l.initial.found.items ++ map (pair l.i) (take l.j-index l.partners)
