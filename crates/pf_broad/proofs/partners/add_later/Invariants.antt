use Rattle.std.proofs.Common.{◌≡◌, ◌++◌}
use Rattle.pf_broad.proofs.Finding.{below}
use Rattle.pf_broad.proofs.partners.add_later.Given as goal

abbrev pub invariant-loop-j : goal.invariant-loop-j
invariant-loop-j l = l.partners.items ≡ l.initial.partners.items ++ below l.bounds l.i l.j
