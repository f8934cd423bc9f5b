use Rattle.pf_solver.proofs.Levels.{passes_by_levels}
use Rattle.pf_solver.proofs.laws.levels_are_solved_as_the_list.Goals as goal

pub returns : goal.returns
returns c = λ n step b levels of. passes_by_levels step n b levels of
