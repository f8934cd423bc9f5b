use Rattle.pf_solver.proofs.Limits.{never_pulls, within_friction}
use Rattle.pf_solver.proofs.laws.rounds_keep_the_limits.Goals as goal

pub returns-clause-normal : goal.returns-clause-normal
returns-clause-normal c = never_pulls

pub returns-clause-friction : goal.returns-clause-friction
returns-clause-friction c = within_friction
