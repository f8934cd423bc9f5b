use Rattle.pf_manifold.proofs.IncidentEdge.{incident_edge_most, inward_normal_unrotate}
use Rattle.pf_manifold.proofs.laws.incident_edges_face_the_reference.Goals as goal

pub returns-clause-most : goal.returns-clause-most
returns-clause-most c = incident_edge_most

pub returns-clause-inward : goal.returns-clause-inward
returns-clause-inward c = inward_normal_unrotate
