use Rattle.std.proofs.Common.{◌≡◌, ◌++◌, take}
use Rattle.std.specs.List.{filter}
use Rattle.pf_broad.specs.Pairs.{is_pair}
use Rattle.pf_broad.proofs.partners.add_overlapping.Given as goal

abbrev pub invariant-loop-other : goal.invariant-loop-other
invariant-loop-other l = l.partners.items ≡ l.initial.partners.items ++ filter (is_pair l.bounds l.i) (take l.other-index l.others)
