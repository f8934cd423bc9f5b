use Rattle.std.proofs.Common.{◌≡◌, take, drop, ◌++◌}
use Rattle.pf_solver.specs.Velocities.{pass}
use Rattle.pf_solver.proofs.velocities.pass.Given as goal

abbrev pub invariant-loop-row : goal.invariant-loop-row
invariant-loop-row g l = record {
  bodies : l.bodies ≡ (pass g.L.ContactStep.step l.initial.bodies (take l.row-index l.initial.rows)).bodies;
  rows : l.rows ≡ (pass g.L.ContactStep.step l.initial.bodies (take l.row-index l.initial.rows)).rows
      ++ drop l.row-index l.initial.rows;
}
