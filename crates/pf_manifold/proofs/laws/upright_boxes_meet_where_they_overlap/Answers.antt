use Rattle.pf_manifold.proofs.Upright.{upright_boxes_meet}
use Rattle.pf_manifold.proofs.laws.upright_boxes_meet_where_they_overlap.Goals as goal

pub returns : goal.returns
returns c = upright_boxes_meet
