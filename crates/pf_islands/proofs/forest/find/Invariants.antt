use Rattle.std.proofs.Common.{◌≡◌, ◌≤◌, ℕ}
use Rattle.pf_islands.specs.Forest.{IsDownward, IsForest}
use Rattle.pf_islands.proofs.forest.find.Given as goal

abbrev pub invariant-loop-parents : goal.invariant-loop-parents
invariant-loop-parents l = record {
  within : l.place ≤ l.body;
  down : IsDownward l.parents;
  kept : (root : ℕ → ℕ) → IsForest root l.initial.parents → IsForest root l.parents;
  same : (root : ℕ → ℕ) → IsForest root l.initial.parents → root l.place ≡ root l.body;
}

abbrev pub decreases-loop-parents : goal.decreases-loop-parents
decreases-loop-parents l = l.place
