-- The faces of a box, as the edges of Box2D-Lite's Collide.cpp, counterclockwise from the one on
-- the right.
use Rattle.std.specs.Prelude.{ℕ, ℤ, pos, neg_ℤ}
use Rattle.pf_num.specs.Fx.{one}
use Rattle.pf_rot.specs.Vector.{V2}
use Rattle.pf_manifold.specs.declared.face.Face.{Face}
use Rattle.pf_manifold.specs.declared.face.Face.TheVariants.{Right, Top, Left, Bottom}

-- 0 to 3
abbrev pub face_number : Face → ℕ
face_number Right = 0
face_number Top = 1
face_number Left = 2
face_number Bottom = 3

-- the distance of the face from the centre of a box of these half extents
abbrev pub front_extent : Face → V2 → ℤ
front_extent Right half = half.x
front_extent Top half = half.y
front_extent Left half = half.x
front_extent Bottom half = half.y

-- the coordinate of v along the face
abbrev pub side_part : Face → V2 → ℤ
side_part Right v = v.y
side_part Top v = v.x
side_part Left v = v.y
side_part Bottom v = v.x

-- the coordinate of v along the face's outward normal
abbrev pub front_part : Face → V2 → ℤ
front_part Right v = v.x
front_part Top v = v.y
front_part Left v = neg_ℤ v.x
front_part Bottom v = neg_ℤ v.y

-- the vector with these coordinates along the outward normal and along the face
abbrev pub from_parts : Face → ℤ → ℤ → V2
from_parts Right front side = record { x = front; y = side }
from_parts Top front side = record { x = side; y = front }
from_parts Left front side = record { x = neg_ℤ front; y = side }
from_parts Bottom front side = record { x = side; y = neg_ℤ front }

-- the outward normal, in the box's own axes
abbrev pub outward_normal : Face → V2
outward_normal Right = record { x = one; y = pos 0 }
outward_normal Top = record { x = pos 0; y = one }
outward_normal Left = record { x = neg_ℤ one; y = pos 0 }
outward_normal Bottom = record { x = pos 0; y = neg_ℤ one }
