use Rattle.std.proofs.Common.{◌≡◌, take, drop, ◌++◌, map}
use Rattle.pf_solver.specs.Alone.{island_after_rounds}
use Rattle.pf_batches.proofs.batch.solve_rounds_alone.Given as goal

abbrev pub invariant-loop-island : goal.invariant-loop-island
invariant-loop-island l =
    l.islands ≡ map island_after_rounds (take l.island-index l.initial.islands) ++ drop l.island-index l.initial.islands
