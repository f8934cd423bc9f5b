use Rattle.std.proofs.Common.{◌≡◌, map, take}
use Rattle.pf_levels.specs.Order.{place_at}
use Rattle.pf_levels.proofs.listing.list_levels.Given as goal

abbrev pub invariant-loop-level : goal.invariant-loop-level
invariant-loop-level l =
    l.found.items ≡ map (map (place_at l.order)) (take l.level-index l.levels)
