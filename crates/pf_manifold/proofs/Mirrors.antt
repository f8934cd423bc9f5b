-- Two circles exchanged: the vector between them is negated, and so is their normal.
use Rattle.std.proofs.Common.{◌≡◌, ◌≢◌, ℕ, zero, suc, ◌+◌, ◌*◌, ◌<◌, ◌≤◌, ℤ, pos, Bool, true, false, [], ◌∷◌, Option, Some, None, refl, ap, ap₂, ⊎_elim, arith}
use Rattle.std.proofs.lemmas.Bool.{cases_lt}
use Rattle.std.proofs.lemmas.Bool.Decides.{nat_tests}
use Rattle.std.proofs.lemmas.Int.{ints, clamps}
use Rattle.std.specs.Int.RustNames.{unsigned_abs}
use Rattle.std.specs.Prelude.{int_lt, ◌==◌, if◌then◌else◌}
use Rattle.std.specs.Option.{option_map}
use Rattle.pf_num.specs.Root.{whole_root}
use Rattle.pf_num.specs.Fx.{saturate, sum, difference}
use Rattle.pf_num.proofs.Roots.{whole_root-meets}
use Rattle.pf_num.proofs.Operations.{difference-swap, sum_comm, difference-none, quotient-neg}
use Rattle.pf_num.proofs.Signs.{magnitude-neg}
use Rattle.pf_rot.specs.Vector.{V2, sub, neg, length_of}
use Rattle.pf_shapes.specs.declared.fixture.Shape.TheVariants.{Circle, Box}
use Rattle.pf_manifold.specs.ContactPoint.{ContactPoint}
use Rattle.pf_manifold.specs.Manifold.{at_most_one}
use Rattle.pf_manifold.specs.PlacedShape.{PlacedShape}
use Rattle.pf_manifold.specs.Circles.{normalize, circle_normal, rim_point, circle_contact, collide_circles}
use Rattle.pf_manifold.specs.BoxCircle.{collide_box_circle}
use Rattle.pf_manifold.specs.Collide.{box_at, mirror_image, collide, collide_shapes}
use Rattle.pf_manifold.specs.Laws.{IsMirrored}

-- ---- vectors

pub minus-swap : (a b : V2) → sub a b ≡ neg (sub b a)
unfolding sub neg
minus-swap a b = rw (difference-swap a.x b.x, difference-swap a.y b.y) refl

length_of-negated : (v : V2) → length_of (neg v) ≡ length_of v
unfolding length_of neg
length_of-negated v = rw (magnitude-neg v.x, magnitude-neg v.y) refl

some_root : (n : ℕ) → 0 < n → 0 < unsigned_abs (saturate (pos (whole_root n)))
unfolding saturate
some_root n some =
    let above : 0 < whole_root n = ⊎_elim
    (λ (none : whole_root n < 1). absurd
    (let zero_root : whole_root n ≡ 0 = omega arith in let h = rw zero_root at (whole_root-meets n).greatest in omega arith))
    (λ (h : 1 ≤ whole_root n). h) (cases_lt (whole_root n) 1) in
    omega (arith, ints, clamps)

squares : (x y : ℕ) → (x ≡ 0 → y ≡ 0 → ⊥) → 0 < x * x + y * y
squares zero zero h = absurd (h refl refl)
squares zero (suc y) h = omega arith
squares (suc x) y h = omega arith

some_length : (v : V2) → (v.x ≡ pos 0 → v.y ≡ pos 0 → ⊥) → 0 < unsigned_abs (length_of v)
unfolding length_of
some_length v h = some_root _ (squares (unsigned_abs v.x) (unsigned_abs v.y) (λ ex ey. h (omega (arith, ints)) (omega (arith, ints))))

pub vector_by_parts : (a b : V2) → a.x ≡ b.x → a.y ≡ b.y → a ≡ b
vector_by_parts a b ex ey = let vector : ℤ → ℤ → V2 = λ x y. record { x = x; y = y } in ap₂ vector ex ey

some_distance : (a b : V2) → a ≢ b → 0 < unsigned_abs (length_of (sub b a))
unfolding sub
some_distance a b apart =
    some_length (sub b a) (λ ex ey. apart (vector_by_parts a b (difference-none a.x b.x ex) (difference-none a.y b.y ey)))

-- ---- circles

normalize-negated : (v : V2) (length : ℤ) → 0 < unsigned_abs length → normalize (neg v) length ≡ neg (normalize v length)
unfolding normalize neg
normalize-negated v length some = rw (quotient-neg v.x length some, quotient-neg v.y length some) refl

normal-negated : (d : V2) (length : ℤ) → 0 < unsigned_abs length → circle_normal (neg d) length ≡ neg (circle_normal d length)
unfolding circle_normal
normal-negated d length some =
    let e : (unsigned_abs length == 0) ≡ false = grind (arith, nat_tests) in
    rw e (normalize-negated d length some)

mirrored_if : (t : Bool) (p q : ContactPoint) → q.normal ≡ neg p.normal → q.separation ≡ p.separation
    → IsMirrored (at_most_one (if t then None else Some p)) (at_most_one (if t then None else Some q))
mirrored_if true p q n s = record { normals = refl; separations = refl }
mirrored_if false p q n s = record { normals = ap (λ x. x ∷ []) n; separations = ap (λ x. x ∷ []) s }

mirrored_apart : (a b : V2) (ra rb : ℤ) (d : V2) → 0 < unsigned_abs (length_of d)
    → IsMirrored (at_most_one (circle_contact a ra rb d)) (at_most_one (circle_contact b rb ra (neg d)))
unfolding circle_contact rim_point
mirrored_apart a b ra rb d some =
    rw (length_of-negated d, sum_comm rb ra)
    (mirrored_if (int_lt (sum ra rb) (length_of d))
    (rim_point a ra (circle_normal d (length_of d)) (difference (length_of d) (sum ra rb)))
    (rim_point b rb (circle_normal (neg d) (length_of d)) (difference (length_of d) (sum ra rb)))
    (normal-negated d (length_of d) some) refl)

mirrored_circles : (a b : V2) (ra rb : ℤ) → a ≢ b
    → IsMirrored (at_most_one (collide_circles a ra b rb)) (at_most_one (collide_circles b rb a ra))
unfolding collide_circles
mirrored_circles a b ra rb apart = rw (minus-swap a b) (mirrored_apart a b ra rb (sub b a) (some_distance a b apart))

pub circles_mirror : (a b : PlacedShape) (ra rb : ℤ) → a.shape ≡ Circle ra → b.shape ≡ Circle rb → a.position ≢ b.position
    → IsMirrored (collide a b) (collide b a)
unfolding collide collide_shapes
circles_mirror a b ra rb ea eb apart = rw (ea, eb) (mirrored_circles a.position b.position ra rb apart)

-- ---- a box and a circle

mirrored_point : (p : Option ContactPoint) → IsMirrored (at_most_one p) (at_most_one (option_map mirror_image p))
unfolding mirror_image
mirrored_point None = record { normals = refl; separations = refl }
mirrored_point (Some p) = record { normals = refl; separations = refl }

pub box_and_circle_mirror : (a b : PlacedShape) (hx hy r : ℤ) → a.shape ≡ Box hx hy → b.shape ≡ Circle r
    → IsMirrored (collide a b) (collide b a)
unfolding collide collide_shapes box_at
box_and_circle_mirror a b hx hy r ea eb = rw (ea, eb) (mirrored_point (collide_box_circle (box_at hx hy a) b.position r))
