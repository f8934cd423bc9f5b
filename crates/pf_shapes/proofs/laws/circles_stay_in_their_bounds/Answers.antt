use Rattle.pf_shapes.proofs.Circles.{circle_stays}
use Rattle.pf_shapes.proofs.laws.circles_stay_in_their_bounds.Goals as goal

pub returns : goal.returns
returns c = circle_stays
