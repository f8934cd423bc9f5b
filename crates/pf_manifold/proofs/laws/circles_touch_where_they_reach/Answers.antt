use Rattle.pf_manifold.proofs.Meeting.{circles_meet}
use Rattle.pf_manifold.proofs.laws.circles_touch_where_they_reach.Goals as goal

pub returns : goal.returns
returns c = circles_meet
