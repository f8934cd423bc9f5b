use Rattle.pf_solver.proofs.Beside.{passes_side_by_side, velocities_side_by_side}
use Rattle.pf_solver.proofs.laws.batches_are_solved_side_by_side.Goals as goal

pub returns-clause-passes : goal.returns-clause-passes
returns-clause-passes c = λ n step batches fit. passes_side_by_side n step batches fit

pub returns-clause-velocities : goal.returns-clause-velocities
returns-clause-velocities c = λ batches fit. velocities_side_by_side batches fit
