use Rattle.pf_manifold.proofs.TouchingPoints.{points_touch}
use Rattle.pf_manifold.proofs.laws.points_touch.Goals as goal

pub returns : goal.returns
returns c = points_touch
