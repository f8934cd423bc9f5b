use Rattle.pf_solver.proofs.AtOnce.{level_at_once}
use Rattle.pf_solver.proofs.laws.levels_are_solved_at_once.Goals as goal

pub returns : goal.returns
returns c = λ step b level apart. level_at_once step b level apart
