use Rattle.pf_solver.proofs.OneList.{passes_are_one_list}
use Rattle.pf_solver.proofs.laws.rounds_are_one_list.Goals as goal

pub returns : goal.returns
returns c = λ n step b. passes_are_one_list step n b
