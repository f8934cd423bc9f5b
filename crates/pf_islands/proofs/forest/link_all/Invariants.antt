use Rattle.std.proofs.Common.{◌≡◌, ℕ, List, ◌++◌, length}
use Rattle.std.specs.Iterator.Adapters.{rev_source}
use Rattle.std.specs.Prelude.{All}
use Rattle.std.specs.Slice.Iter.{iter_rest}
use Rattle.pf_manifold.specs.Touches.{IsTouchOf, Touch}
use Rattle.pf_islands.specs.Forest.{IsDownward, IsForest}
use Rattle.pf_islands.specs.Group.{group}
use Rattle.pf_islands.specs.Settled.{touches_of}
use Rattle.pf_islands.proofs.Linked.{ChangesNone}
use Rattle.pf_islands.proofs.forest.link_all.Given as goal

abbrev pub invariant-loop-point : goal.invariant-loop-point
invariant-loop-point l = record {
  down : IsDownward l.parents;
  within : All (λ (m : ℕ × Touch). IsTouchOf (length l.scene.fixtures) m.1) (iter_rest (rev_source l.point-iterator));
  passed : (passed : List Touch)
      × (touches_of l.points ≡ touches_of (iter_rest (rev_source l.point-iterator)) ++ passed)
      × IsForest (group l.scene passed) l.parents × ChangesNone l.scene l.first l.second passed;
}
