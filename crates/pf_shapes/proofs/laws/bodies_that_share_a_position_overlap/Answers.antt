use Rattle.pf_shapes.proofs.Covering.{bodies_overlap}
use Rattle.pf_shapes.proofs.laws.bodies_that_share_a_position_overlap.Goals as goal

pub returns : goal.returns
returns c = bodies_overlap
