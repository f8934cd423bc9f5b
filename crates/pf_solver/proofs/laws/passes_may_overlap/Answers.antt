use Rattle.pf_solver.proofs.Overlap.{late_and_early, passes_by_overlap}
use Rattle.pf_solver.proofs.laws.passes_may_overlap.Goals as goal

pub returns-clause-levels : goal.returns-clause-levels
returns-clause-levels c = λ pairs levels across early are of step b is. late_and_early step pairs levels across early b are of is

pub returns-clause-passes : goal.returns-clause-passes
returns-clause-passes c = λ n step b levels across early of done. passes_by_overlap step b levels across early of done n
