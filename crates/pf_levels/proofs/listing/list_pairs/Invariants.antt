use Rattle.std.proofs.Common.{◌≡◌, map, take}
use Rattle.pf_levels.specs.Order.{row_pair_at}
use Rattle.pf_levels.proofs.listing.list_pairs.Given as goal

abbrev pub invariant-loop-place : goal.invariant-loop-place
invariant-loop-place l =
    l.found.items ≡ map (row_pair_at l.pairs) (take l.place-index l.order)
