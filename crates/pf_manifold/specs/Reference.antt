-- The reference box and its reference face, as Box2D's b2CollidePolygons: the box with a face whose
-- normal is the best axis. The other box is the incident box.
use Rattle.std.specs.Prelude.{pos, neg_ℤ, int_lt, if◌then◌else◌}
use Rattle.pf_rot.specs.Vector.{V2, neg}
use Rattle.pf_rot.specs.Rotation.{Rot}
use Rattle.pf_manifold.specs.declared.face.Face.{Face}
use Rattle.pf_manifold.specs.declared.face.Face.TheVariants.{Right, Top, Left, Bottom}
use Rattle.pf_manifold.specs.declared.separation.Axis.{Axis}
use Rattle.pf_manifold.specs.declared.separation.Axis.TheVariants.{AX, AY, BX, BY}
use Rattle.pf_manifold.specs.declared.reference.Owner.{Owner}
use Rattle.pf_manifold.specs.declared.reference.Owner.TheVariants.{BoxA, BoxB}
use Rattle.pf_manifold.specs.PlacedShape.{OrientedBox}
use Rattle.pf_manifold.specs.Separation.{Frames}

-- which of the two is the reference box, that box and its reference face; and of the incident box
-- the half extents, and the offset of its centre and its rotation in the reference box's axes
pub record Reference : Type 0 where
  pub owner : Owner
  pub box : OrientedBox
  pub face : Face
  pub incident : V2
  pub offset : V2
  pub relative : Rot

-- the face on this axis towards the other box, whose centre is at this offset
unfoldable pub face_towards : Axis → V2 → Face
face_towards AX offset = if int_lt (pos 0) offset.x then Right else Left
face_towards AY offset = if int_lt (pos 0) offset.y then Top else Bottom
face_towards BX offset = if int_lt (pos 0) offset.x then Right else Left
face_towards BY offset = if int_lt (pos 0) offset.y then Top else Bottom

-- the box a as the reference box
unfoldable pub reference_a : OrientedBox → OrientedBox → Frames → Axis → Reference
reference_a a b f axis = record {
  owner = BoxA;
  box = a;
  face = face_towards axis f.in_a;
  incident = b.half;
  offset = f.in_a;
  relative = f.relative;
}

-- the box b as the reference box: the offset and the sine of the relative rotation change their
-- signs
unfoldable pub reference_b : OrientedBox → OrientedBox → Frames → Axis → Reference
reference_b a b f axis = record {
  owner = BoxB;
  box = b;
  face = face_towards axis (neg f.in_b);
  incident = a.half;
  offset = neg f.in_b;
  relative = record { c = f.relative.c; s = neg_ℤ f.relative.s };
}

-- the box a where the axis is one of its own
unfoldable pub reference_of : OrientedBox → OrientedBox → Frames → Axis → Reference
reference_of a b f AX = reference_a a b f AX
reference_of a b f AY = reference_a a b f AY
reference_of a b f BX = reference_b a b f BX
reference_of a b f BY = reference_b a b f BY
