-- Two bodies have at most two contact points, in ascending order of features.
use Rattle.std.proofs.Common.{◌≡◌, ◌≢◌, ℕ, ◌+◌, ◌<◌, ◌≤◌, ℤ, Bool, true, false, List, [], ◌∷◌, length, Option, Some, None, refl, arith}
use Rattle.std.proofs.lemmas.Bool.Decides.{nat_tests}
use Rattle.std.specs.Prelude.{int_lt, nat_lt, if◌then◌else◌}
use Rattle.pf_shapes.specs.declared.fixture.Shape.{Shape}
use Rattle.pf_shapes.specs.declared.fixture.Shape.TheVariants.{Circle, Box}
use Rattle.pf_manifold.specs.declared.face.Face.{Face}
use Rattle.pf_manifold.specs.declared.incident.Mark.TheVariants.{CutLow, CutHigh}
use Rattle.pf_manifold.specs.ContactPoint.{ContactPoint}
use Rattle.pf_manifold.specs.Manifold.{at_most_one}
use Rattle.pf_manifold.specs.PlacedShape.{PlacedShape, OrientedBox}
use Rattle.pf_manifold.specs.Separation.{frames_of, separations_of, best_axis}
use Rattle.pf_manifold.specs.Reference.{Reference, reference_of}
use Rattle.pf_manifold.specs.Incident.{ClipVertex, Segment, mark_number, incident_edge, incident_segment, corner_vertex, vertex_of}
use Rattle.pf_manifold.specs.Clip.{crossing, clip_to_line, clip_low, clip_high, then_clip_high, clip}
use Rattle.pf_manifold.specs.Boxes.{vertex_feature, vertex_point, vertex_contact, ascending_points, segment_points, edge_points, reference_points, points_along, collide_boxes}
use Rattle.pf_manifold.specs.Collide.{collide, collide_shapes}

-- no point, one, or two of which the second has the greater feature
abbrev pub AreAscending : List ContactPoint → Type 0
AreAscending [] = Unit {0}
AreAscending (p ∷ []) = Unit {0}
AreAscending (p ∷ (q ∷ [])) = p.feature < q.feature
AreAscending (p ∷ (q ∷ (r ∷ rest))) = ⊥

-- so there are at most two
pub few_points : (points : List ContactPoint) → AreAscending points → length points ≤ 2
few_points [] h = omega arith
few_points (p ∷ []) h = omega arith
few_points (p ∷ (q ∷ [])) h = omega arith
few_points (p ∷ (q ∷ (r ∷ rest))) h = absurd h

-- ---- marks of a segment

-- two marks below this number, and different
record AreMarks (n first second : ℕ) : Type 0 where
  first_below : first < n
  second_below : second < n
  different : first ≢ second

abbrev HasMarks : ℕ → Option Segment → Type 0
HasMarks n None = Unit {0}
HasMarks n (Some s) = AreMarks n (mark_number s.first.mark) (mark_number s.second.mark)

-- a crossing has a new mark
kept_marks : (n : ℕ) (first_out second_out : Bool) (s : Segment) (cut : ClipVertex) → mark_number cut.mark ≡ n → HasMarks n (Some s)
    → HasMarks (n + 1) (clip_to_line first_out second_out s cut)
unfolding clip_to_line
kept_marks n true true s cut e h = tt
kept_marks n true false s cut e h = record {
  first_below = omega arith;
  second_below = omega arith;
  different = omega arith;
}
kept_marks n false true s cut e h = record {
  first_below = omega arith;
  second_below = omega arith;
  different = omega arith;
}
kept_marks n false false s cut e h = record {
  first_below = omega arith;
  second_below = omega arith;
  different = h.different;
}

low_marks : (s : Segment) (limit : ℤ) → HasMarks 2 (Some s) → HasMarks 3 (clip_low s limit)
unfolding clip_low crossing
low_marks s limit h =
    kept_marks 2 (int_lt s.first.side limit) (int_lt s.second.side limit) s (crossing s.first s.second limit CutLow) refl h

high_marks : (s : Option Segment) (limit : ℤ) → HasMarks 3 s → HasMarks 4 (then_clip_high s limit)
unfolding clip_high crossing
high_marks None limit h = tt
high_marks (Some s) limit h =
    kept_marks 3 (int_lt limit s.first.side) (int_lt limit s.second.side) s (crossing s.first s.second limit CutHigh) refl h

clipped_marks : (s : Segment) (side : ℤ) → HasMarks 2 (Some s) → HasMarks 4 (clip s side)
unfolding clip
clipped_marks s side h = high_marks _ side (low_marks s _ h)

incident_marks : (r : Reference) (edge : Face) → HasMarks 2 (Some (incident_segment r edge))
unfolding incident_segment corner_vertex vertex_of
incident_marks r edge = record { first_below = omega arith; second_below = omega arith; different = omega arith }

-- ---- features of a segment's points

abbrev AreDifferent : Option ContactPoint → Option ContactPoint → Type 0
AreDifferent None q = Unit {0}
AreDifferent (Some p) None = Unit {0}
AreDifferent (Some p) (Some q) = p.feature ≢ q.feature

in_order : (p q : ContactPoint) → p.feature ≢ q.feature → AreAscending (if nat_lt q.feature p.feature then q ∷ p ∷ [] else p ∷ q ∷ [])
in_order p q different = by (nat_lt q.feature p.feature) refl
  where
    by : (t : Bool) → nat_lt q.feature p.feature ≡ t → AreAscending (if t then q ∷ p ∷ [] else p ∷ q ∷ [])
    by true e = grind (arith, nat_tests)
    by false e = grind (arith, nat_tests)

AreAscending-ascending : (p q : Option ContactPoint) → AreDifferent p q → AreAscending (ascending_points p q)
unfolding ascending_points
AreAscending-ascending None None h = tt
AreAscending-ascending None (Some q) h = tt
AreAscending-ascending (Some p) None h = tt
AreAscending-ascending (Some p) (Some q) h = in_order p q h

if_different : (s t : Bool) (p q : ContactPoint) → p.feature ≢ q.feature
    → AreDifferent (if s then None else Some p) (if t then None else Some q)
if_different true t p q h = tt
if_different false true p q h = tt
if_different false false p q h = h

different_features : (r : Reference) (edge : Face) (v w : ClipVertex) → mark_number v.mark ≢ mark_number w.mark
    → vertex_feature r edge v.mark ≢ vertex_feature r edge w.mark
unfolding vertex_feature
different_features r edge v w h = omega arith

different_contacts : (r : Reference) (edge : Face) (v w : ClipVertex) → mark_number v.mark ≢ mark_number w.mark
    → AreDifferent (vertex_contact r edge v) (vertex_contact r edge w)
unfolding vertex_contact vertex_point
different_contacts r edge v w h =
    if_different _ _ (vertex_point r edge v _) (vertex_point r edge w _) (different_features r edge v w h)

segment_ascends : (r : Reference) (edge : Face) (s : Option Segment) → HasMarks 4 s → AreAscending (segment_points r edge s)
segment_ascends r edge None h = tt
segment_ascends r edge (Some s) h =
    AreAscending-ascending (vertex_contact r edge s.first) (vertex_contact r edge s.second)
    (different_contacts r edge s.first s.second h.different)

edge_ascends : (r : Reference) (edge : Face) → AreAscending (edge_points r edge)
unfolding edge_points
edge_ascends r edge = segment_ascends r edge _ (clipped_marks (incident_segment r edge) _ (incident_marks r edge))

along_ascends : (gap : Bool) (r : Reference) → AreAscending (if gap then [] else reference_points r)
unfolding reference_points
along_ascends true r = tt
along_ascends false r = edge_ascends r (incident_edge r)

boxes_ascend : (a b : OrientedBox) → AreAscending (collide_boxes a b)
unfolding collide_boxes points_along
boxes_ascend a b = along_ascends _ (reference_of a b (frames_of a b) (best_axis (separations_of a.half b.half (frames_of a b)) a.half b.half))

-- ---- bodies

one_ascends : (p : Option ContactPoint) → AreAscending (at_most_one p)
one_ascends None = tt
one_ascends (Some p) = tt

shapes_ascend : (s t : Shape) (a b : PlacedShape) → AreAscending (collide_shapes s t a b)
unfolding collide_shapes
shapes_ascend (Circle ra) (Circle rb) a b = one_ascends _
shapes_ascend (Circle r) (Box hx hy) a b = one_ascends _
shapes_ascend (Box hx hy) (Circle r) a b = one_ascends _
shapes_ascend (Box hx hy) (Box kx ky) a b = boxes_ascend _ _

pub bodies_ascend : (a b : PlacedShape) → AreAscending (collide a b)
unfolding collide
bodies_ascend a b = shapes_ascend a.shape b.shape a b
