use Rattle.std.proofs.Common.{◌≡◌, take, drop, ◌++◌, map}
use Rattle.pf_solver.specs.Alone.{island_at_end}
use Rattle.pf_batches.proofs.batch.finish_all.Given as goal

abbrev pub invariant-loop-island : goal.invariant-loop-island
invariant-loop-island l =
    l.islands ≡ map island_at_end (take l.island-index l.initial.islands) ++ drop l.island-index l.initial.islands
