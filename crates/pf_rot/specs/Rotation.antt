-- Rotations by cosine and sine, and rotated vectors, as Box2D's b2Rot, b2Mul and b2MulT.
use Rattle.std.specs.Prelude.{ℤ, pos, ◌==◌, if◌then◌else◌}
use Rattle.std.specs.Int.RustNames.{unsigned_abs}
use Rattle.pf_num.specs.Fx.{one, tick, sum, difference, product, quotient}
use Rattle.pf_rot.specs.Vector.{V2, length_of}

-- a rotation: its cosine and its sine as raw numbers
pub record Rot : Type 0 where
  pub c : ℤ
  pub s : ℤ

-- the identity: the rotation by 0
abbrev pub upright : Rot
upright = record { c = one; s = pos 0 }

-- v turned by q
unfoldable pub rotate : Rot → V2 → V2
rotate q v = record {
  x = difference (product q.c v.x) (product q.s v.y);
  y = sum (product q.s v.x) (product q.c v.y);
}

-- v turned back by q
unfoldable pub unrotate : Rot → V2 → V2
unrotate q v = record {
  x = sum (product q.c v.x) (product q.s v.y);
  y = difference (product q.c v.y) (product q.s v.x);
}

-- the direction (c, s) divided by its length, and upright where that is 0
abbrev pub unit_parts : ℤ → ℤ → ℤ → Rot
unit_parts length c s =
    if unsigned_abs length == 0 then upright
    else record { c = quotient c length; s = quotient s length }

unfoldable pub unit : ℤ → ℤ → Rot
unit c s = unit_parts (length_of (record { x = c; y = s })) c s

-- q turned by a small angle a: a step along the tangent, and back to the unit circle
abbrev pub turn_by_angle : Rot → ℤ → Rot
turn_by_angle q a =
    if unsigned_abs a == 0 then q
    else unit (difference q.c (product a q.s)) (sum q.s (product a q.c))

-- q after a tick at the angular velocity w
unfoldable pub turn : Rot → ℤ → Rot
turn q w = turn_by_angle q (product tick w)
