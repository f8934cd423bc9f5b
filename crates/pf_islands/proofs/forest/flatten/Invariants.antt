use Rattle.std.proofs.Common.{ℕ, get_or, length}
use Rattle.pf_islands.specs.Forest.{OthersAreRoots, IsDownward, IsForest}
use Rattle.pf_islands.proofs.Flattened.{AreFlat}
use Rattle.pf_islands.proofs.forest.flatten.Given as goal

abbrev pub invariant-loop-number : goal.invariant-loop-number
invariant-loop-number l = record {
  down : IsDownward l.parents;
  kept : (root : ℕ → ℕ) → IsForest root l.initial.parents → IsForest root l.parents;
  flat : (root : ℕ → ℕ) → IsForest root l.initial.parents → (others : OthersAreRoots l.initial.parents l.numbers)
      → AreFlat others.is_listed root l.parents (get_or l.numbers l.number-index (length l.initial.parents));
}
