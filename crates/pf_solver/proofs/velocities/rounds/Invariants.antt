use Rattle.std.proofs.Common.{◌≡◌, All, length}
use Rattle.pf_rows.specs.Row.{IsEntryOf}
use Rattle.pf_solver.specs.Impulse.{after_round}
use Rattle.pf_solver.specs.Velocities.{passes}
use Rattle.pf_solver.proofs.velocities.rounds.Given as goal

abbrev pub invariant-loop : goal.invariant-loop
invariant-loop l = record {
  value : record { bodies = l.bodies; rows = l.rows }
      ≡ passes l.counter after_round (record { bodies = l.initial.bodies; rows = l.initial.rows });
  fit : All (λ r. IsEntryOf (length l.bodies) r.entry) l.rows;
}
