-- Inertias of allowed sizes and masses are above 0 and monotone in the mass, and the inertias whose
-- inverses round to 0.
use Rattle.std.proofs.Common.{◌≡◌, ℕ, ◌+◌, ◌*◌, ◌%◌, ◌^◌, ◌<◌, ◌≤◌, ℤ, pos, negsuc, ◌≤ℤ◌, ◌<ℤ◌, ◌↔◌, refl, arith, ⊎_elim}
use Rattle.std.proofs.lemmas.Bool.{cases_lt}
use Rattle.std.proofs.lemmas.Int.{ints, clamps}
use Rattle.std.proofs.Math.Nat.{mul-le-mul_right}
use Rattle.std.specs.Int.RustNames.{unsigned_abs}
use Rattle.std.specs.Prelude.{◌==◌, if◌then◌else◌}
use Rattle.pf_num.specs.Round.{nearest, near}
use Rattle.pf_num.specs.Fx.{one, saturate, sum, product, quotient}
use Rattle.pf_num.proofs.Nearest.{nearest-meets}
use Rattle.pf_num.proofs.Signs.{positive-eqb, quotient-pos}
use Rattle.pf_num.proofs.Monotone.{product-monotone, quotient-monotone}
use Rattle.pf_num.proofs.Operations.{product_comm}
use Rattle.pf_shapes.specs.declared.fixture.Shape.{Shape}
use Rattle.pf_shapes.specs.declared.fixture.Shape.TheVariants.{Circle, Box}
use Rattle.pf_shapes.specs.Fixture.{Fixture, IsSize, HasSize, IsDynamicMass, inertia, inverse_mass, inverse_inertia}

-- ---- products from below

product-at_least : (a b m n : ℤ) → pos 0 ≤ℤ m → pos 0 ≤ℤ n → m ≤ℤ a → n ≤ℤ b
    → product m n ≤ℤ product a b
product-at_least a b m n from_m from_n ha hb =
    let first : product m n ≤ℤ product a n = product-monotone m a n from_n ha in
    let second : product n a ≤ℤ product b a = product-monotone n b a (omega (arith, ints)) hb in
    omega (arith, ints, first, second, product_comm a n, product_comm a b)

least_radius : product (pos 1048576) (pos 1048576) ≡ pos 65536
unfolding product near nearest saturate
least_radius = refl

least_disc : quotient (pos 65536) (pos 33554432) ≡ pos 32768
unfolding quotient near nearest saturate
least_disc = refl

least_side : product (pos 2097152) (pos 2097152) ≡ pos 262144
unfolding product near nearest saturate
least_side = refl

least_box : quotient (pos 524288) (pos 201326592) ≡ pos 43691
unfolding quotient near nearest saturate
least_box = refl

least_inertia : product (pos 1048576) (pos 32768) ≡ pos 2048
unfolding product near nearest saturate
least_inertia = refl

-- ---- the inertia of mass 1

disc_at_least : (r : ℤ) → IsSize r → pos 32768 ≤ℤ quotient (product r r) (pos 33554432)
disc_at_least r size =
    let square = product-at_least r r (pos 1048576) (pos 1048576) (omega (arith, ints)) (omega (arith, ints)) size.0 size.0 in
    let long : pos 65536 ≤ℤ product r r = rw least_radius at square in
    rw least_disc at (quotient-monotone (pos 65536) (product r r) 33554432 (omega arith) long)

side_at_least : (h : ℤ) → IsSize h → pos 2097152 ≤ℤ sum h h
unfolding sum saturate
side_at_least h size = omega (arith, ints, clamps)

square_at_least : (h : ℤ) → IsSize h → pos 262144 ≤ℤ product (sum h h) (sum h h)
square_at_least h size =
    let side = side_at_least h size in
    rw least_side at
    (product-at_least (sum h h) (sum h h) (pos 2097152) (pos 2097152) (omega (arith, ints)) (omega (arith, ints)) side side)

sum_at_least : (a b : ℤ) → pos 262144 ≤ℤ a → pos 262144 ≤ℤ b → pos 524288 ≤ℤ sum a b
unfolding sum saturate
sum_at_least a b ha hb = omega (arith, ints, clamps)

box_at_least : (hx hy : ℤ) → IsSize hx → IsSize hy
    → pos 32768 ≤ℤ quotient (sum (product (sum hx hx) (sum hx hx)) (product (sum hy hy) (sum hy hy))) (pos 201326592)
box_at_least hx hy size_x size_y =
    let long = sum_at_least _ _ (square_at_least hx size_x) (square_at_least hy size_y) in
    let quotients = rw least_box at (quotient-monotone (pos 524288) _ 201326592 (omega arith) long) in
    omega (arith, ints, quotients)

-- ---- the inertia

at_least : (mass unit : ℤ) → IsDynamicMass mass → pos 32768 ≤ℤ unit → pos 2048 ≤ℤ product mass unit
at_least mass unit dynamic h =
    rw least_inertia at
    (product-at_least mass unit (pos 1048576) (pos 32768) (omega (arith, ints)) (omega (arith, ints)) dynamic.0 h)

pub inertia_positive : (shape : Shape) (mass : ℤ) → HasSize shape → IsDynamicMass mass
    → pos 0 <ℤ inertia shape mass
unfolding inertia
inertia_positive (Circle r) mass size dynamic = omega (arith, ints, at_least mass _ dynamic (disc_at_least r size))
inertia_positive (Box hx hy) mass size dynamic = omega (arith, ints, at_least mass _ dynamic (box_at_least hx hy size.0 size.1))

pub inertia_monotone : (shape : Shape) (mass greater : ℤ) → HasSize shape → mass ≤ℤ greater
    → inertia shape mass ≤ℤ inertia shape greater
unfolding inertia
inertia_monotone (Circle r) mass greater size h =
    let unit = disc_at_least r size in product-monotone mass greater _ (omega (arith, ints, unit)) h
inertia_monotone (Box hx hy) mass greater size h =
    let unit = box_at_least hx hy size.0 size.1 in product-monotone mass greater _ (omega (arith, ints, unit)) h

-- ---- inverses

-- the inverse of a number rounds to 0 exactly from 2^25 on
inverse-zero : (n : ℕ) → 0 < n → (quotient one (pos n) ≡ pos 0) ↔ (2 ^ 49 ≤ n)
inverse-zero n some =
    let k = nearest (16777216 * 16777216) n in
    let meets = nearest-meets (16777216 * 16777216) n some in
    rw (quotient-pos 16777216 n some) (
      λ none. let z : k ≡ 0 = omega (arith, ints) in large n k z meets.low,
      λ far. let z : k ≡ 0 = small n k far meets.high meets.even_high in omega (arith, ints),
    )
  where
    large : (n k : ℕ) → k ≡ 0 → 2 * (16777216 * 16777216) ≤ 2 * (k * n) + n → 2 ^ 49 ≤ n
    large n k z low = let bare = rw z at low in omega (arith, bare)

    small : (n k : ℕ) → 2 ^ 49 ≤ n → 2 * (k * n) ≤ 2 * (16777216 * 16777216) + n
        → (2 * (k * n) ≡ 2 * (16777216 * 16777216) + n → k % 2 ≡ 0) → k ≡ 0
    small n k far high even =
        ⊎_elim
        (λ (none : k < 1). omega arith)
        (λ (one_more : 1 ≤ k).
        let once : 1 * n ≤ k * n = mul-le-mul_right n one_more in
        let is_even : k % 2 ≡ 0 = even (omega arith) in
        let twice : 2 * n ≤ k * n = mul-le-mul_right n (omega arith) in
        absurd (omega arith))
        (cases_lt k 1)

dynamic_inverse : (n : ℕ) → 0 < n → n ≤ 2 ^ 34 → pos 0 <ℤ quotient one (pos n)
dynamic_inverse n some few = above (quotient one (pos n)) refl
  where
    above : (z : ℤ) → quotient one (pos n) ≡ z → pos 0 <ℤ quotient one (pos n)
    above z e =
        let k = nearest (16777216 * 16777216) n in
        let meets = nearest-meets (16777216 * 16777216) n some in
        let not_zero : 0 < k =
        ⊎_elim (λ (none : k < 1). let z : k ≡ 0 = omega arith in let low = rw z at meets.low in absurd (omega (arith, low)))
        (λ (h : 1 ≤ k). h) (cases_lt k 1) in
        rw (quotient-pos 16777216 n some) (omega (arith, ints))

pub inverse_mass_positive : (f : Fixture) → IsDynamicMass f.mass → pos 0 <ℤ inverse_mass f
unfolding inverse_mass
inverse_mass_positive f dynamic = by f.mass dynamic
  where
    by : (m : ℤ) → IsDynamicMass m → pos 0 <ℤ (if unsigned_abs m == 0 then pos 0 else quotient one m)
    by (pos n) dynamic =
        let some : 0 < n = omega (arith, ints) in
        rw (positive-eqb n some) (dynamic_inverse n some (omega (arith, ints)))
    by (negsuc n) dynamic = absurd (omega (arith, ints))

pub inverse_inertia_zero : (f : Fixture) → HasSize f.shape → IsDynamicMass f.mass
    → (inverse_inertia f ≡ pos 0) ↔ (pos (2 ^ 49) ≤ℤ inertia f.shape f.mass)
unfolding inverse_inertia
inverse_inertia_zero f size dynamic =
    let heavy : 0 < unsigned_abs f.mass = omega (arith, ints) in
    rw (positive-eqb (unsigned_abs f.mass) heavy) (by (inertia f.shape f.mass) (inertia_positive f.shape f.mass size dynamic))
  where
    by : (i : ℤ) → pos 0 <ℤ i → (quotient one i ≡ pos 0) ↔ (pos (2 ^ 49) ≤ℤ i)
    by (pos n) some =
        let e = inverse-zero n (omega (arith, ints)) in
        (λ none. let far = e.0 none in omega (arith, ints), λ far. e.1 (omega (arith, ints)))
    by (negsuc n) some = absurd (omega (arith, ints))
