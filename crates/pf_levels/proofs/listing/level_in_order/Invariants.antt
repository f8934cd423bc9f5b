use Rattle.std.proofs.Common.{◌≡◌, map, take}
use Rattle.pf_levels.specs.Order.{place_at}
use Rattle.pf_levels.proofs.listing.level_in_order.Given as goal

abbrev pub invariant-loop-number : goal.invariant-loop-number
invariant-loop-number l = l.found ≡ map (place_at l.order) (take l.number-index l.level)
