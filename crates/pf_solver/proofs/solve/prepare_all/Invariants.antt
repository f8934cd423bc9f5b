use Rattle.std.proofs.Common.{◌≡◌, map, take, drop, ◌++◌}
use Rattle.pf_solver.specs.Solve.{prepared_row}
use Rattle.pf_solver.proofs.solve.prepare_all.Given as goal

abbrev pub invariant-loop-row : goal.invariant-loop-row
invariant-loop-row l =
    l.rows ≡ map (prepared_row l.fn.scene l.fn.bodies) (take l.row-index l.initial.rows) ++ drop l.row-index l.initial.rows
