use Rattle.std.proofs.Common.{◌≡◌, filter, not, take}
use Rattle.pf_broad.specs.Pairs.{bounds_at}
use Rattle.pf_broad.specs.Enlarged.{contains}
use Rattle.pf_broad.proofs.enlarged.left_bodies.Given as goal

abbrev pub invariant-loop-number : goal.invariant-loop-number
invariant-loop-number l = l.left.items ≡ filter (λ k. not (contains (bounds_at l.enlarged k) (bounds_at l.bounds k))) (take l.number-index l.dirty)
