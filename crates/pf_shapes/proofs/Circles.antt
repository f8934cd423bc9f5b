-- The bounds of a circle contain the circle.
use Rattle.std.proofs.Common.{ℕ, ◌+◌, ◌*◌, ◌<◌, ◌≤◌, ℤ, pos, ◌-ℤ◌, ◌≤ℤ◌, Bool, ⊎_elim, arith}
use Rattle.std.proofs.lemmas.Bool.{cases_lt}
use Rattle.std.proofs.lemmas.Int.{ints, clamps}
use Rattle.std.proofs.Math.Nat.{mul-le-mul}
use Rattle.std.specs.Int.RustNames.{unsigned_abs}
use Rattle.pf_num.specs.Fx.{IsRaw, saturate, sum, difference}
use Rattle.pf_rot.specs.Vector.{V2, add, sub}
use Rattle.pf_rot.specs.Rotation.{Rot}
use Rattle.pf_shapes.specs.declared.fixture.Shape.TheVariants.{Circle}
use Rattle.pf_shapes.specs.Reach.{widen}
use Rattle.pf_shapes.specs.Bounds.{extent, shape_bounds}
use Rattle.pf_shapes.specs.Laws.{IsInCircle, IsInBounds}

-- no side of a right triangle is longer than the hypotenuse
side : (a b r : ℕ) → a * a + b * b ≤ r * r → a ≤ r
side a b r h =
    ⊎_elim
    (λ (long : r < a). let far : (r + 1) * (r + 1) ≤ a * a = mul-le-mul (omega arith) (omega arith) in absurd (omega (arith, far)))
    (λ (short : a ≤ r). short)
    (cases_lt r a)

-- between the ends, on one axis
ends_around : (position r p : ℤ) → pos 0 ≤ℤ r → IsRaw r → IsRaw p → unsigned_abs (p -ℤ position) ≤ unsigned_abs r →
    (difference position (widen r) ≤ℤ p) × (p ≤ℤ sum position (widen r))
unfolding widen sum difference saturate
ends_around position r p some raw_r raw_p h = (omega (arith, ints, clamps), omega (arith, ints, clamps))

pub circle_stays : (r : ℤ) (position : V2) (rotation : Rot) (is_static : Bool) (p : V2) → pos 0 ≤ℤ r → IsRaw r → IsRaw p.x → IsRaw p.y → IsInCircle r position p →
    IsInBounds (shape_bounds (Circle r) position rotation is_static) p
unfolding shape_bounds extent add sub
circle_stays r position rotation is_static p some raw_r raw_x raw_y h =
    let dx = unsigned_abs (p.x -ℤ position.x) in
    let dy = unsigned_abs (p.y -ℤ position.y) in
    let x = ends_around position.x r p.x some raw_r raw_x (side dx dy (unsigned_abs r) h.near) in
    let y = ends_around position.y r p.y some raw_r raw_y (side dy dx (unsigned_abs r) (omega (arith, h.near))) in
    record { left = x.0; right = x.1; below = y.0; above = y.1 }
