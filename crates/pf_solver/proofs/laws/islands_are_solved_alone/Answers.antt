use Rattle.pf_solver.proofs.Seen.{solved_seen}
use Rattle.pf_solver.proofs.laws.islands_are_solved_alone.Goals as goal

pub returns : goal.returns
returns c = λ s numbers bodies rows rising within own. solved_seen numbers s bodies rows rising within own
