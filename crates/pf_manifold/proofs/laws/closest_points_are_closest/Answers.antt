use Rattle.pf_manifold.proofs.Closest.{point_is_closest, itself_is_closest, face_is_closest, face_is_earliest}
use Rattle.pf_manifold.proofs.laws.closest_points_are_closest.Goals as goal

pub returns-clause-point : goal.returns-clause-point
returns-clause-point c = point_is_closest

pub returns-clause-itself : goal.returns-clause-itself
returns-clause-itself c = itself_is_closest

pub returns-clause-face : goal.returns-clause-face
returns-clause-face c = face_is_closest

pub returns-clause-earliest : goal.returns-clause-earliest
returns-clause-earliest c = face_is_earliest
