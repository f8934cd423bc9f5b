-- A fact about the contact points of two shapes, from the same about each point that may be one.
use Rattle.std.proofs.Common.{Bool, true, false, [], ◌∷◌, Option, Some, None}
use Rattle.std.proofs.lemmas.List.Elements.{All-nil, All-cons}
use Rattle.std.specs.Option.{option_map}
use Rattle.std.specs.Prelude.{All, nat_lt, if◌then◌else◌}
use Rattle.pf_manifold.specs.declared.face.Face.{Face}
use Rattle.pf_manifold.specs.ContactPoint.{ContactPoint}
use Rattle.pf_manifold.specs.Manifold.{at_most_one}
use Rattle.pf_manifold.specs.PlacedShape.{OrientedBox}
use Rattle.pf_manifold.specs.Separation.{frames_of, separations_of, best_axis, has_gap}
use Rattle.pf_manifold.specs.Reference.{Reference, reference_of}
use Rattle.pf_manifold.specs.Incident.{ClipVertex, Segment, incident_edge}
use Rattle.pf_manifold.specs.Boxes.{vertex_contact, ascending_points, segment_points, edge_points, reference_points, points_along, collide_boxes}

-- the fact about an optional point
abbrev pub OfPoint : (ContactPoint → Type 0) → Option ContactPoint → Type 0
OfPoint P None = Unit {0}
OfPoint P (Some p) = P p

pub one_has : (P : ContactPoint → Type 0) (p : Option ContactPoint) → OfPoint P p → All P (at_most_one p)
one_has P None h = All-nil P
one_has P (Some p) h = All-cons P p [] h (All-nil P)

pub unless_has : (P : ContactPoint → Type 0) (t : Bool) (p : ContactPoint) → P p → OfPoint P (if t then None else Some p)
unless_has P true p h = tt
unless_has P false p h = h

pub mapped_has : (P : ContactPoint → Type 0) (f : ContactPoint → ContactPoint) → ((p : ContactPoint) → P p → P (f p))
    → (p : Option ContactPoint) → OfPoint P p → OfPoint P (option_map f p)
mapped_has P f keeps None h = tt
mapped_has P f keeps (Some p) h = keeps p h

two_have : (P : ContactPoint → Type 0) (t : Bool) (p q : ContactPoint) → P p → P q
    → All P (if t then q ∷ p ∷ [] else p ∷ q ∷ [])
two_have P true p q hp hq = All-cons P q (p ∷ []) hq (one_has P (Some p) hp)
two_have P false p q hp hq = All-cons P p (q ∷ []) hp (one_has P (Some q) hq)

ascending_have : (P : ContactPoint → Type 0) (p q : Option ContactPoint) → OfPoint P p → OfPoint P q
    → All P (ascending_points p q)
unfolding ascending_points
ascending_have P None q hp hq = one_has P q hq
ascending_have P (Some p) None hp hq = one_has P (Some p) hp
ascending_have P (Some p) (Some q) hp hq = two_have P (nat_lt q.feature p.feature) p q hp hq

-- the fact about each clip vertex that is a contact point
abbrev pub OfVertices : (ContactPoint → Type 0) → Type 0
OfVertices P = (r : Reference) (edge : Face) (v : ClipVertex) → OfPoint P (vertex_contact r edge v)

segment_has : (P : ContactPoint → Type 0) → OfVertices P → (r : Reference) (edge : Face) (s : Option Segment)
    → All P (segment_points r edge s)
segment_has P vertices r edge None = All-nil P
segment_has P vertices r edge (Some s) =
    ascending_have P (vertex_contact r edge s.first) (vertex_contact r edge s.second)
    (vertices r edge s.first) (vertices r edge s.second)

edge_has : (P : ContactPoint → Type 0) → OfVertices P → (r : Reference) (edge : Face) → All P (edge_points r edge)
unfolding edge_points
edge_has P vertices r edge = segment_has P vertices r edge _

along_has : (P : ContactPoint → Type 0) → OfVertices P → (gap : Bool) (r : Reference)
    → All P (if gap then [] else reference_points r)
unfolding reference_points
along_has P vertices true r = All-nil P
along_has P vertices false r = edge_has P vertices r (incident_edge r)

pub boxes_have : (P : ContactPoint → Type 0) → OfVertices P → (a b : OrientedBox) → All P (collide_boxes a b)
unfolding collide_boxes points_along
boxes_have P vertices a b =
    along_has P vertices (has_gap (separations_of a.half b.half (frames_of a b)))
    (reference_of a b (frames_of a b) (best_axis (separations_of a.half b.half (frames_of a b)) a.half b.half))
