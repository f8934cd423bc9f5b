-- A number n is the rounded quotient p / b if n * b differs from p by less than b / 2.
use Rattle.std.proofs.Common.{◌≡◌, ⊎_elim, ℕ, ◌+◌, ◌*◌, ◌-◌, ◌/◌, ◌%◌, ◌<◌, ◌≤◌, zero, suc, ap, ap₂, sym, ◌∙◌, arith}
use Rattle.std.proofs.lemmas.Bool.{cases_lt}
use Rattle.std.proofs.lemmas.Bool.Decides.{nat_tests}
use Rattle.std.proofs.lemmas.Nat.{div-mul-add, mod-mul-add}
use Rattle.pf_num.specs.Round.{carry, nearest}

quotient_by_product : (p b n : ℕ) → n * b ≤ p → p - n * b < b → p / b ≡ n
quotient_by_product p b n h l =
    let e : p ≡ n * b + (p - n * b) = omega (arith, h) in
    rw e (div-mul-add n b (p - n * b) l)

remainder_by_product : (p b n : ℕ) → n * b ≤ p → p - n * b < b → p % b ≡ p - n * b
remainder_by_product p b n h l =
    let e : p ≡ n * b + (p - n * b) = omega (arith, h) in
    ap (λ m. m % b) e ∙ mod-mul-add n b (p - n * b) l

no_carry : (n r b : ℕ) → 2 * r < b → n + carry n r b ≡ n
no_carry n r b small =
    let none : carry n r b ≡ 0 = grind (arith, nat_tests) in
    omega (arith, none)

one_carry : (n r b : ℕ) → b < 2 * r → n + carry n r b ≡ n + 1
one_carry n r b great =
    let one : carry n r b ≡ 1 = grind (arith, nat_tests) in
    omega (arith, one)

-- the product is at most the dividend
pub nearest_at : (p b n : ℕ) → n * b ≤ p → 2 * (p - n * b) < b → n ≡ nearest p b
unfolding nearest
nearest_at p b n low near =
    let below : p - n * b < b = omega (arith, near) in
    sym (ap₂ (λ q r. q + carry q r b) (quotient_by_product p b n low below) (remainder_by_product p b n low below)
    ∙ no_carry n (p - n * b) b near)

-- the product is above the dividend
pub nearest_above : (p b n : ℕ) → p < n * b → 2 * (n * b - p) < b → n ≡ nearest p b
unfolding nearest
nearest_above p b zero above near = absurd (omega (arith, above))
nearest_above p b (suc m) above near =
    let low : m * b ≤ p = omega (arith, above, near) in
    let below : p - m * b < b = omega (arith, above) in
    let great : b < 2 * (p - m * b) = omega (arith, above, near) in
    let one_more : m + 1 ≡ suc m = omega arith in
    sym (ap₂ (λ q r. q + carry q r b) (quotient_by_product p b m low below) (remainder_by_product p b m low below)
    ∙ one_carry m (p - m * b) b great ∙ one_more)

-- on either side; one of the two truncated differences is 0
pub nearest_within : (p b n : ℕ) → 2 * ((n * b - p) + (p - n * b)) < b → n ≡ nearest p b
nearest_within p b n near =
    ⊎_elim
    (λ above. nearest_above p b n above (omega (arith, above, near)))
    (λ low. nearest_at p b n low (omega (arith, low, near)))
    (cases_lt p (n * b))
