use Rattle.pf_manifold.proofs.BestAxis.{best_within_threshold, best_within_exact, best_above_first}
use Rattle.pf_manifold.proofs.laws.best_axes_are_greatest.Goals as goal

pub returns-clause-computed : goal.returns-clause-computed
returns-clause-computed c = best_within_threshold

pub returns-clause-exact : goal.returns-clause-exact
returns-clause-exact c = best_within_exact

pub returns-clause-first : goal.returns-clause-first
returns-clause-first c = best_above_first
