use Rattle.std.proofs.Common.{◌≡◌, take}
use Rattle.pf_manifold.specs.Touches.{touches}
use Rattle.pf_manifold.proofs.touch.collide_pairs.Given as goal

abbrev pub invariant-loop-pair : goal.invariant-loop-pair
invariant-loop-pair l = l.touches.items ≡ touches l.fixtures l.bodies (take l.pair-index l.pairs)
