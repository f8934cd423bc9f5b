use Rattle.std.proofs.Common.{◌≡◌, take, drop, ◌++◌, map}
use Rattle.pf_solver.specs.Alone.{prepared_island}
use Rattle.pf_batches.proofs.batch.prepare_all.Given as goal

abbrev pub invariant-loop-island : goal.invariant-loop-island
invariant-loop-island l =
    l.islands ≡ map (prepared_island l.scene) (take l.island-index l.initial.islands) ++ drop l.island-index l.initial.islands
