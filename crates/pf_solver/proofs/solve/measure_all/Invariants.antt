use Rattle.std.proofs.Common.{◌≡◌}
use Rattle.pf_solver.proofs.solve.measure_all.Given as goal

abbrev pub invariant-loop-row : goal.invariant-loop-row
invariant-loop-row l = l.rows ≡ l.initial.rows
