use Rattle.pf_manifold.proofs.Ranks.{ranks_are_in_order}
use Rattle.pf_manifold.proofs.laws.keys_are_in_order.Goals as goal

pub returns : goal.returns
returns c = ranks_are_in_order
