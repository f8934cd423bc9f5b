-- The contact point of a box and a circle, as Box2D 2.x's b2CollidePolygonAndCircle: by the region
-- of the circle's centre, which is over a face, at a corner or inside the box.
use Rattle.std.specs.Prelude.{ℕ, ◌+◌, ◌*◌, ℤ, neg_ℤ, ◌&&◌, Option, None, Some, int_lt, if◌then◌else◌}
use Rattle.std.specs.Option.{option_map}
use Rattle.std.specs.Ordering.{int_eq}
use Rattle.std.specs.Int.{int_min, int_max}
use Rattle.pf_num.specs.Fx.{sum, difference}
use Rattle.pf_rot.specs.Vector.{V2, sub, length_of}
use Rattle.pf_rot.specs.Rotation.{rotate}
use Rattle.pf_manifold.specs.declared.face.Face.{Face}
use Rattle.pf_manifold.specs.declared.face.Face.TheVariants.{Right, Top, Left, Bottom}
use Rattle.pf_manifold.specs.declared.box_circle.Region.{Region}
use Rattle.pf_manifold.specs.declared.box_circle.Region.TheVariants.{Below, Within, Above}
use Rattle.pf_manifold.specs.ContactPoint.{ContactPoint}
use Rattle.pf_manifold.specs.PlacedShape.{OrientedBox, to_box, to_world}
use Rattle.pf_manifold.specs.Face.{face_number, front_extent, side_part, from_parts, outward_normal}
use Rattle.pf_manifold.specs.Circles.{normalize}

-- ---- a circle whose centre is outside the box

-- z clamped to the range from -h to h
unfoldable pub clamp : ℤ → ℤ → ℤ
clamp h z = int_max (neg_ℤ h) (int_min h z)

-- the point of a box closest to d, both in the box's own axes
unfoldable pub closest_point : V2 → V2 → V2
closest_point half d = record { x = clamp half.x d.x; y = clamp half.y d.y }

-- the region of z: below -h, above h, or within
unfoldable pub region_of : ℤ → ℤ → Region
region_of h z = if int_lt z (neg_ℤ h) then Below else (if int_lt h z then Above else Within)

-- 0 to 2
abbrev pub region_number : Region → ℕ
region_number Below = 0
region_number Within = 1
region_number Above = 2

-- 128 to 136, by the regions of the circle's centre d on both axes
unfoldable pub region_feature : V2 → V2 → ℕ
region_feature half d =
    128 + 3 * region_number (region_of half.x d.x) + region_number (region_of half.y d.y)

-- the contact point at the point closest to the circle's centre d; e is the vector from there to d
unfoldable pub outside_point : V2 → ℤ → V2 → V2 → V2 → ContactPoint
outside_point half r d closest e = record {
  feature = region_feature half d;
  position = closest;
  normal = normalize e (length_of e);
  separation = difference (length_of e) r;
}

-- no contact point where the distance is greater than the radius
unfoldable pub outside_contact : V2 → ℤ → V2 → V2 → V2 → Option ContactPoint
outside_contact half r d closest e =
    if int_lt r (length_of e) then None else Some (outside_point half r d closest e)

-- ---- a circle whose centre is inside the box

-- the distance of d from a face, from inside the box
unfoldable pub face_distance : V2 → V2 → Face → ℤ
face_distance half d Right = difference half.x d.x
face_distance half d Top = difference half.y d.y
face_distance half d Left = sum half.x d.x
face_distance half d Bottom = sum half.y d.y

-- the new face where it is closer to d than the best one, else the best one
unfoldable pub closer_face : V2 → V2 → Face → Face → Face
closer_face half d best face =
    if int_lt (face_distance half d face) (face_distance half d best) then face else best

-- the face closest to d, the first in the order right, top, left, bottom
unfoldable pub closest_face : V2 → V2 → Face
closest_face half d =
    closer_face half d (closer_face half d (closer_face half d Right Top) Left) Bottom

-- the contact point on this face, next to the circle's centre d
unfoldable pub inside_point : V2 → ℤ → V2 → Face → ContactPoint
inside_point half r d face = record {
  feature = 140 + face_number face;
  position = from_parts face (front_extent face half) (side_part face d);
  normal = outward_normal face;
  separation = difference (neg_ℤ (face_distance half d face)) r;
}

-- ---- both cases

-- the contact point in the box's own axes; closest is the point of the box closest to the circle's
-- centre d
unfoldable pub contact_at : V2 → ℤ → V2 → V2 → Option ContactPoint
contact_at half r d closest =
    if int_eq d.x closest.x && int_eq d.y closest.y
    then Some (inside_point half r d (closest_face half d))
    else outside_contact half r d closest (sub d closest)

-- a contact point in the box's own axes, transformed to the world
unfoldable pub world_contact : OrientedBox → ContactPoint → ContactPoint
world_contact b p =
    record p { position = to_world b p.position; normal = rotate b.rotation p.normal }

-- the contact point of a box and a circle with this centre and radius, with the normal from the box
-- to the circle
unfoldable pub collide_box_circle : OrientedBox → V2 → ℤ → Option ContactPoint
collide_box_circle b centre r =
    option_map (world_contact b)
    (contact_at b.half r (to_box b centre) (closest_point b.half (to_box b centre)))
