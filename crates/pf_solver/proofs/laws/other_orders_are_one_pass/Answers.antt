use Rattle.pf_solver.proofs.Reorder.{pass_in_order}
use Rattle.pf_solver.proofs.laws.other_orders_are_one_pass.Goals as goal

pub returns : goal.returns
returns c = λ step b order is. pass_in_order step b order is
