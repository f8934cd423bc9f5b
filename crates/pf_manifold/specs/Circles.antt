-- The contact point of two circles, as Box2D 2.x's b2CollideCircles. It is on the rim of the first
-- circle, and the normal of circles with one centre points up.
use Rattle.std.specs.Prelude.{ℤ, pos, ◌==◌, Option, Some, None, int_lt, if◌then◌else◌}
use Rattle.std.specs.Int.RustNames.{unsigned_abs}
use Rattle.pf_num.specs.Fx.{one, sum, difference, quotient}
use Rattle.pf_rot.specs.Vector.{V2, add, sub, scale, length_of}
use Rattle.pf_manifold.specs.ContactPoint.{ContactPoint}

-- v divided by its length, by part
unfoldable pub normalize : V2 → ℤ → V2
normalize v length = record { x = quotient v.x length; y = quotient v.y length }

-- the normal of circles whose centres differ by d, of this length: the direction of d, and upwards
-- where d is 0
unfoldable pub circle_normal : V2 → ℤ → V2
circle_normal d length =
    if unsigned_abs length == 0 then record { x = pos 0; y = one } else normalize d length

-- the contact point on the rim of the first circle, of radius r, along this normal
unfoldable pub rim_point : V2 → ℤ → V2 → ℤ → ContactPoint
rim_point position r normal separation = record {
  feature = 0;
  position = add position (scale r normal);
  normal = normal;
  separation = separation;
}

-- the contact point of circles whose centres differ by d: none where the length of d is above the
-- sum of the radii
unfoldable pub circle_contact : V2 → ℤ → ℤ → V2 → Option ContactPoint
circle_contact position ra rb d =
    if int_lt (sum ra rb) (length_of d) then None
    else Some (rim_point position ra (circle_normal d (length_of d))
    (difference (length_of d) (sum ra rb)))

-- the contact point of the circles at a and b, of radii ra and rb
unfoldable pub collide_circles : V2 → ℤ → V2 → ℤ → Option ContactPoint
collide_circles a ra b rb = circle_contact a ra rb (sub b a)
