-- The contact points of two boxes, as Box2D-Lite's Collide.cpp: the ends of the clipped incident
-- edge that are behind the reference face, moved to that face.
use Rattle.std.specs.Prelude.{ℕ, ◌+◌, ◌*◌, ℤ, pos, neg_ℤ, List, [], ◌∷◌, Option, None, Some, nat_lt, int_lt, if◌then◌else◌}
use Rattle.pf_num.specs.Fx.{difference}
use Rattle.pf_rot.specs.Vector.{V2, neg}
use Rattle.pf_rot.specs.Rotation.{Rot}
use Rattle.pf_manifold.specs.declared.face.Face.{Face}
use Rattle.pf_manifold.specs.declared.face.Face.TheVariants.{Right, Top, Left, Bottom}
use Rattle.pf_manifold.specs.declared.incident.Mark.{Mark}
use Rattle.pf_manifold.specs.declared.reference.Owner.{Owner}
use Rattle.pf_manifold.specs.declared.reference.Owner.TheVariants.{BoxA, BoxB}
use Rattle.pf_manifold.specs.ContactPoint.{ContactPoint}
use Rattle.pf_manifold.specs.Manifold.{at_most_one}
use Rattle.pf_manifold.specs.PlacedShape.{OrientedBox, to_world}
use Rattle.pf_manifold.specs.Face.{face_number, front_extent, side_part, from_parts}
use Rattle.pf_manifold.specs.Separation.{Frames, Separations, frames_of, separations_of, has_gap, best_axis}
use Rattle.pf_manifold.specs.Reference.{Reference, reference_of}
use Rattle.pf_manifold.specs.Incident.{ClipVertex, Segment, mark_number, incident_edge, incident_segment}
use Rattle.pf_manifold.specs.Clip.{clip}

-- ---- one point

-- the outward normal of a face of a box turned by q, in the world
unfoldable pub face_normal : Face → Rot → V2
face_normal Right q = record { x = q.c; y = q.s }
face_normal Top q = record { x = neg_ℤ q.s; y = q.c }
face_normal Left q = record { x = neg_ℤ q.c; y = neg_ℤ q.s }
face_normal Bottom q = record { x = q.s; y = neg_ℤ q.c }

-- the normal from a to b: negated where the reference face is b's
abbrev pub from_a_to_b : Owner → V2 → V2
from_a_to_b BoxA normal = normal
from_a_to_b BoxB normal = neg normal

-- the contact normal
unfoldable pub reference_normal : Reference → V2
reference_normal r = from_a_to_b r.owner (face_normal r.face r.box.rotation)

-- 0 to 3 for the faces of a, 4 to 7 for those of b
abbrev pub first_face_number : Owner → ℕ
first_face_number BoxA = 0
first_face_number BoxB = 4

-- 0 to 127, by the reference face, the incident edge and the mark, as Box2D-Lite's FeaturePair
unfoldable pub vertex_feature : Reference → Face → Mark → ℕ
vertex_feature r edge mark =
    16 * (first_face_number r.owner + face_number r.face) + 4 * face_number edge + mark_number mark

-- the contact point of a vertex, moved to the reference face
unfoldable pub vertex_point : Reference → Face → ClipVertex → ℤ → ContactPoint
vertex_point r edge v separation = record {
  feature = vertex_feature r edge v.mark;
  position = to_world r.box (from_parts r.face (front_extent r.face r.box.half) v.side);
  normal = reference_normal r;
  separation = separation;
}

-- a vertex is a contact point where it isn't in front of the reference face
abbrev pub point_behind : Reference → Face → ClipVertex → ℤ → Option ContactPoint
point_behind r edge v separation =
    if int_lt (pos 0) separation then None else Some (vertex_point r edge v separation)

unfoldable pub vertex_contact : Reference → Face → ClipVertex → Option ContactPoint
vertex_contact r edge v =
    point_behind r edge v (difference v.front (front_extent r.face r.box.half))

-- ---- lists of contact points

-- in ascending order of features
unfoldable pub ascending_points : Option ContactPoint → Option ContactPoint → List ContactPoint
ascending_points None q = at_most_one q
ascending_points (Some p) None = p ∷ []
ascending_points (Some p) (Some q) = if nat_lt q.feature p.feature then q ∷ p ∷ [] else p ∷ q ∷ []

-- the contact points of a clipped edge
abbrev pub segment_points : Reference → Face → Option Segment → List ContactPoint
segment_points r edge None = []
segment_points r edge (Some s) =
    ascending_points (vertex_contact r edge s.first) (vertex_contact r edge s.second)

-- the contact points of this edge of the incident box
unfoldable pub edge_points : Reference → Face → List ContactPoint
edge_points r edge =
    segment_points r edge (clip (incident_segment r edge) (side_part r.face r.box.half))

-- the contact points of the incident edge
unfoldable pub reference_points : Reference → List ContactPoint
reference_points r = edge_points r (incident_edge r)

-- no contact point where there is a separating axis
unfoldable pub points_along : OrientedBox → OrientedBox → Frames → Separations → List ContactPoint
points_along a b f s =
    if has_gap s then [] else reference_points (reference_of a b f (best_axis s a.half b.half))

-- the contact points of two boxes
unfoldable pub collide_boxes : OrientedBox → OrientedBox → List ContactPoint
collide_boxes a b = points_along a b (frames_of a b) (separations_of a.half b.half (frames_of a b))
