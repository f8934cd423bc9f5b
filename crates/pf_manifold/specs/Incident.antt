-- The incident edge, as Box2D-Lite's ComputeIncidentEdge: the edge of the incident box whose
-- outward normal is most against the reference normal, as a segment in the coordinates of the
-- reference face.
use Rattle.std.specs.Prelude.{ℕ, ℤ, pos, neg_ℤ, int_lt, if◌then◌else◌}
use Rattle.std.specs.Int.RustNames.{unsigned_abs}
use Rattle.pf_rot.specs.Vector.{V2, add}
use Rattle.pf_rot.specs.Rotation.{Rot, rotate}
use Rattle.pf_manifold.specs.declared.face.Face.{Face}
use Rattle.pf_manifold.specs.declared.face.Face.TheVariants.{Right, Top, Left, Bottom}
use Rattle.pf_manifold.specs.declared.incident.Mark.{Mark}
use Rattle.pf_manifold.specs.declared.incident.Mark.TheVariants.{First, Second, CutLow, CutHigh}
use Rattle.pf_manifold.specs.Face.{front_part, side_part}
use Rattle.pf_manifold.specs.Reference.{Reference}

-- ---- the edge

-- the inward normal of the reference face in the axes of the incident box, of the relative rotation
-- q
unfoldable pub inward_normal : Face → Rot → V2
inward_normal Right q = record { x = neg_ℤ q.c; y = q.s }
inward_normal Top q = record { x = neg_ℤ q.s; y = neg_ℤ q.c }
inward_normal Left q = record { x = q.c; y = neg_ℤ q.s }
inward_normal Bottom q = record { x = q.s; y = q.c }

-- the edge whose outward normal is closest to the direction n: right or left only where n is longer
-- along x than along y
unfoldable pub edge_along : V2 → Face
edge_along n =
    if int_lt (pos (unsigned_abs n.y)) (pos (unsigned_abs n.x))
    then (if int_lt (pos 0) n.x then Right else Left)
    else (if int_lt (pos 0) n.y then Top else Bottom)

-- the edge whose outward normal is most against the reference normal
unfoldable pub incident_edge : Reference → Face
incident_edge r = edge_along (inward_normal r.face r.relative)

-- ---- its ends

-- the ends of an edge, counterclockwise, in the axes of its box of these half extents
abbrev pub first_corner : Face → V2 → V2
first_corner Right half = record { x = half.x; y = neg_ℤ half.y }
first_corner Top half = record { x = half.x; y = half.y }
first_corner Left half = record { x = neg_ℤ half.x; y = half.y }
first_corner Bottom half = record { x = neg_ℤ half.x; y = neg_ℤ half.y }

abbrev pub second_corner : Face → V2 → V2
second_corner Right half = record { x = half.x; y = half.y }
second_corner Top half = record { x = neg_ℤ half.x; y = half.y }
second_corner Left half = record { x = neg_ℤ half.x; y = neg_ℤ half.y }
second_corner Bottom half = record { x = half.x; y = neg_ℤ half.y }

-- 0 or 1 for an end of the edge, 2 or 3 for the crossing with the low or the high side
abbrev pub mark_number : Mark → ℕ
mark_number First = 0
mark_number Second = 1
mark_number CutLow = 2
mark_number CutHigh = 3

-- a vertex, as Box2D's b2ClipVertex: the coordinates along the reference normal and along the
-- reference face, from the reference box's centre, and the origin
pub record ClipVertex : Type 0 where
  pub front : ℤ
  pub side : ℤ
  pub mark : Mark

-- a position in the reference box's axes, as a vertex
unfoldable pub vertex_of : Face → Mark → V2 → ClipVertex
vertex_of face mark v = record { front = front_part face v; side = side_part face v; mark = mark }

-- a corner of the incident box, as a vertex
unfoldable pub corner_vertex : Reference → Mark → V2 → ClipVertex
corner_vertex r mark corner = vertex_of r.face mark (add r.offset (rotate r.relative corner))

-- a part of the incident edge
pub record Segment : Type 0 where
  pub first : ClipVertex
  pub second : ClipVertex

-- an edge of the incident box
unfoldable pub incident_segment : Reference → Face → Segment
incident_segment r edge = record {
  first = corner_vertex r First (first_corner edge r.incident);
  second = corner_vertex r Second (second_corner edge r.incident);
}
