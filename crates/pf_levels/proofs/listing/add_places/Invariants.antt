use Rattle.std.proofs.Common.{◌≡◌, ◌++◌, take}
use Rattle.std.specs.List.{concat}
use Rattle.pf_levels.proofs.listing.add_places.Given as goal

abbrev pub invariant-loop-level : goal.invariant-loop-level
invariant-loop-level l = l.order.items ≡ l.initial.order.items ++ concat (take l.level-index l.levels)
