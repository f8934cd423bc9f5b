-- Separating axes of two boxes, as Box2D-Lite's Collide.cpp: the separations along the face normals
-- of both boxes, and the best of these axes. An axis with a separation above 0 separates the boxes.
use Rattle.std.specs.Prelude.{ℤ, pos, Bool, ◌||◌, int_lt, if◌then◌else◌}
use Rattle.pf_num.specs.Fx.{sum, difference, product}
use Rattle.pf_rot.specs.Vector.{V2, sub}
use Rattle.pf_rot.specs.Rotation.{Rot, unrotate}
use Rattle.pf_shapes.specs.Reach.{magnitude, reach}
use Rattle.pf_manifold.specs.declared.separation.Axis.{Axis}
use Rattle.pf_manifold.specs.declared.separation.Axis.TheVariants.{AX, AY, BX, BY}
use Rattle.pf_manifold.specs.PlacedShape.{OrientedBox}

-- ---- frames

-- the offset from the centre of a to that of b in the axes of each box, and the rotation of b in
-- the axes of a
pub record Frames : Type 0 where
  pub in_a : V2
  pub in_b : V2
  pub relative : Rot

-- the rotation b in the axes of the rotation a
unfoldable pub relative_rotation : Rot → Rot → Rot
relative_rotation a b = record {
  c = sum (product a.c b.c) (product a.s b.s);
  s = difference (product a.c b.s) (product a.s b.c);
}

-- the frames of boxes of the rotations a and b whose centres differ by this offset
unfoldable pub frames_at_offset : Rot → Rot → V2 → Frames
frames_at_offset a b offset =
    record { in_a = unrotate a offset; in_b = unrotate b offset; relative = relative_rotation a b }

-- the frames of two boxes
unfoldable pub frames_of : OrientedBox → OrientedBox → Frames
frames_of a b = frames_at_offset a.rotation b.rotation (sub b.position a.position)

-- ---- separations

-- the absolute values of the parts
unfoldable pub magnitudes : V2 → V2
magnitudes v = record { x = magnitude v.x; y = magnitude v.y }

-- the extents along the axes of a box of these half extents, turned by q
unfoldable pub reaches : Rot → V2 → V2
reaches q half = record { x = reach q.c half.x q.s half.y; y = reach q.s half.x q.c half.y }

-- the separations along the axes of a box from the other box, of the rotation q and at this offset
unfoldable pub face_separations : V2 → V2 → Rot → V2 → V2
face_separations half offset q other = sub (sub (magnitudes offset) half) (reaches q other)

-- the separations along the axes of a and of b
pub record Separations : Type 0 where
  pub a : V2
  pub b : V2

-- the separations of boxes of the half extents a and b
unfoldable pub separations_of : V2 → V2 → Frames → Separations
separations_of a b f = record {
  a = face_separations a f.in_a f.relative b;
  b = face_separations b f.in_b f.relative a;
}

-- there is a separating axis
unfoldable pub has_gap : Separations → Bool
has_gap s =
    int_lt (pos 0) s.a.x || int_lt (pos 0) s.a.y || int_lt (pos 0) s.b.x || int_lt (pos 0) s.b.y

-- ---- the best axis

-- 0.95 and 0.01, Box2D-Lite's relativeTol and absoluteTol
abbrev pub relative_tolerance : ℤ
relative_tolerance = pos 15938355

abbrev pub absolute_tolerance : ℤ
absolute_tolerance = pos 167772

-- the separation that another axis has to exceed to replace the best one: h is its box's half
-- extent
unfoldable pub threshold : ℤ → ℤ → ℤ
threshold best h = sum (product relative_tolerance best) (product absolute_tolerance h)

-- an axis and the separation along it
pub record Candidate : Type 0 where
  pub axis : Axis
  pub separation : ℤ

-- the new candidate where it exceeds the threshold, else the best one so far
unfoldable pub better_candidate : Candidate → Candidate → ℤ → Candidate
better_candidate best new h =
    if int_lt (threshold best.separation h) new.separation then new else best

-- the best axis of boxes of the half extents a and b: the four candidates in the order AX, AY, BX,
-- BY
unfoldable pub best_axis : Separations → V2 → V2 → Axis
best_axis s a b =
    (better_candidate
    (better_candidate
    (better_candidate (record { axis = AX; separation = s.a.x })
    (record { axis = AY; separation = s.a.y }) a.y)
    (record { axis = BX; separation = s.b.x }) b.x)
    (record { axis = BY; separation = s.b.y }) b.y).axis
