use Rattle.std.proofs.Common.{◌≡◌, take, drop, ◌++◌, map}
use Rattle.pf_solver.specs.Alone.{island_after_tick}
use Rattle.tests_tick.proofs.batches.solve_each.Given as goal

abbrev pub invariant-loop-island : goal.invariant-loop-island
invariant-loop-island l =
    l.islands
    ≡ map (island_after_tick l.scene) (take l.island-index l.initial.islands) ++ drop l.island-index l.initial.islands
