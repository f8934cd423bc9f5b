-- Two circles have a contact point where their exact distance, rounded down, is at most the sum of
-- their radii.
use Rattle.std.proofs.Common.{◌≡◌, ℕ, ◌+◌, ◌<◌, ◌≤◌, ◌↔◌, ℤ, pos, ◌-ℤ◌, ◌≤ℤ◌, Bool, true, false, Some, None, min, refl, ⊎_elim, arith}
use Rattle.std.proofs.lemmas.Bool.{cases_lt}
use Rattle.std.proofs.lemmas.Int.{ints, clamps}
use Rattle.std.specs.Int.RustNames.{unsigned_abs}
use Rattle.std.specs.Option.{IsSome}
use Rattle.std.specs.Prelude.{int_lt, if◌then◌else◌}
use Rattle.pf_num.specs.Root.{whole_root}
use Rattle.pf_num.specs.Fx.{saturate, sum, difference}
use Rattle.pf_num.proofs.Roots.{whole_root-meets, root_below}
use Rattle.pf_rot.specs.Vector.{V2, sub, length_of}
use Rattle.pf_shapes.specs.Fixture.{IsSize}
use Rattle.pf_manifold.specs.ContactPoint.{ContactPoint}
use Rattle.pf_manifold.specs.Circles.{circle_contact, collide_circles}
use Rattle.pf_shapes.specs.Laws.{square, distance_squared}
use Rattle.pf_manifold.proofs.Closest.{squared_le}
use Rattle.pf_manifold.proofs.Comparisons.{not_above, tests_above}

-- ---- squares of numbers that saturate at the greatest number g

held_is : (d n g : ℕ) → n ≤ g → square (min d g) < square n → min d g ≡ d
held_is d n g h less =
    ⊎_elim
    (λ (far : g < d). absurd
    (let e : min d g ≡ g = omega arith in
    let square : square n ≤ square (min d g) = squared_le n (min d g) (omega arith) in
    omega (arith, square, less)))
    (λ (near : d ≤ g). omega arith)
    (cases_lt g d)

held_squares : (d e n g : ℕ) → n ≤ g → (square (min d g) + square (min e g) < square n) ↔ (square d + square e < square n)
held_squares d e n g h = (
  λ less.
      let ed : min d g ≡ d = held_is d n g h (omega (arith, less)) in
      let ee : min e g ≡ e = held_is e n g h (omega (arith, less)) in
      rw (ed, ee) at less,
  λ less.
      let sd = squared_le (min d g) d (omega arith) in
      let se = squared_le (min e g) e (omega arith) in
      omega (arith, less, sd, se),
)

-- ---- a length and what reaches it

magnitude-difference : (x y : ℤ) → unsigned_abs (difference x y) ≡ min (unsigned_abs (y -ℤ x)) 36028797018963967
unfolding difference saturate
magnitude-difference x y = omega (arith, ints, clamps)

at_most : (k r : ℕ) → k < 36028797018963967 → saturate (pos r) ≤ℤ pos k → r ≤ k
unfolding saturate
at_most k r h low = omega (arith, ints, clamps)

reaches : (k r : ℕ) → r ≤ k → int_lt (pos k) (saturate (pos r)) ≡ false
unfolding saturate
reaches k r h = let e : saturate (pos r) ≤ℤ pos k = omega (arith, ints, clamps) in tests_above (pos k) (saturate (pos r)) e

-- a saturated whole root is at most k where the number is below the next square
root_reaches : (k n : ℕ) → k < 36028797018963967
    → (int_lt (pos k) (saturate (pos (whole_root n))) ≡ false) ↔ (n < square (k + 1))
root_reaches k n h = (
  λ e.
      let low : whole_root n ≤ k = at_most k (whole_root n) h (not_above (pos k) (saturate (pos (whole_root n))) e) in
      let square : square (whole_root n + 1) ≤ square (k + 1) = squared_le (whole_root n + 1) (k + 1) (omega arith) in
      omega (arith, square, (whole_root-meets n).greatest),
  λ less.
      let low : whole_root n < k + 1 = root_below n (k + 1) less in
      reaches k (whole_root n) (omega arith),
)

-- ---- two circles

sum_of_sizes : (ra rb : ℤ) → IsSize ra → IsSize rb → sum ra rb ≡ pos (unsigned_abs ra + unsigned_abs rb)
unfolding sum saturate
sum_of_sizes ra rb ha hb = omega (arith, ints, clamps)

small_sum : (ra rb : ℤ) → IsSize ra → IsSize rb → unsigned_abs ra + unsigned_abs rb + 1 ≤ 36028797018963967
small_sum ra rb ha hb = omega (arith, ints)

some_where_not : (t : Bool) (p : ContactPoint) → IsSome (if t then None else Some p) ↔ (t ≡ false)
some_where_not true p = (λ e. absurd (cc), λ e. absurd (cc))
some_where_not false p = (λ e. refl, λ e. refl)

then_also : {A B C : Type 0} → A ↔ B → B ↔ C → A ↔ C
then_also f g = (λ a. g.0 (f.0 a), λ c. f.1 (g.1 c))

distance_reaches : (a b : V2) (k : ℕ) → k + 1 ≤ 36028797018963967
    → (int_lt (pos k) (length_of (sub b a)) ≡ false) ↔ (distance_squared a b < square (k + 1))
unfolding length_of sub
distance_reaches a b k h =
    rw (magnitude-difference b.x a.x, magnitude-difference b.y a.y)
    (then_also (root_reaches k _ (omega arith))
    (held_squares (unsigned_abs (a.x -ℤ b.x)) (unsigned_abs (a.y -ℤ b.y)) (k + 1) 36028797018963967 h))

pub circles_meet : (a b : V2) (ra rb : ℤ) → IsSize ra → IsSize rb
    → IsSome (collide_circles a ra b rb) ↔ (distance_squared a b < square (unsigned_abs ra + unsigned_abs rb + 1))
unfolding collide_circles circle_contact
circles_meet a b ra rb ha hb =
    rw (sum_of_sizes ra rb ha hb)
    (then_also (some_where_not _ _)
    (distance_reaches a b (unsigned_abs ra + unsigned_abs rb) (small_sum ra rb ha hb)))
