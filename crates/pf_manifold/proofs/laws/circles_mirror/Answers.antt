use Rattle.pf_manifold.proofs.Mirrors.{circles_mirror, box_and_circle_mirror}
use Rattle.pf_manifold.proofs.laws.circles_mirror.Goals as goal

pub returns-clause-circles : goal.returns-clause-circles
returns-clause-circles c = circles_mirror

pub returns-clause-box_and_circle : goal.returns-clause-box_and_circle
returns-clause-box_and_circle c = box_and_circle_mirror
