-- The short path of a product: 2^23 - 1 is added, and 1 for an odd floor, and the sum is shifted.
use Rattle.std.proofs.Common.{◌≡◌, ℕ, suc, ◌+◌, ◌-◌, ◌/◌, ◌%◌, ◌<◌, ◌≤◌, ℤ, pos, negsuc, ◌+ℤ◌, neg_ℤ, refl, sym, ap, ◌∙◌, ⊎_elim, arith, add-one}
use Rattle.std.proofs.lemmas.Bool.{cases_lt}
use Rattle.std.proofs.lemmas.Bool.Decides.{nat_tests}
use Rattle.std.proofs.lemmas.Int.{ints}
use Rattle.std.specs.Int.RustNames.{unsigned_abs}
use Rattle.std.specs.Int.Signed.{shr_z}
use Rattle.pf_num.specs.Round.{nearest, near}
use Rattle.pf_num.proofs.Signs.{near-pos_pos, near-negsuc_pos}

-- from 0 on the shift gives the nearest
shifted-up : (n : ℕ) → (n + 8388607 + n / 16777216 % 2) / 16777216 ≡ nearest n 16777216
unfolding nearest
shifted-up n = grind (arith, nat_tests)

-- below 0, where the sum stays below 0
shifted-down : (n k : ℕ) → k ≡ 8388607 + suc (n / 16777216) % 2 → k ≤ n → (n - k) / 16777216 + 1 ≡ nearest (suc n) 16777216
unfolding nearest
shifted-down n k e h = grind (arith, nat_tests)

-- below 0, where the sum comes to 0 or above
shifted-to_zero : (n k : ℕ) → k ≡ 8388607 + suc (n / 16777216) % 2 → n < k → nearest (suc n) 16777216 ≡ 0
unfolding nearest
shifted-to_zero n k e h = grind (arith, nat_tests)

reaching_zero : (n k : ℕ) → n < k → nearest (suc n) 16777216 ≡ 0 → k ≤ 8388608 → shr_z (negsuc n +ℤ pos k) 16777216 ≡ neg_ℤ (pos (nearest (suc n) 16777216))
reaching_zero n k below e small =
    let sum : negsuc n +ℤ pos k ≡ pos (k - suc n) = omega (arith, ints) in
    let none : (k - suc n) / 16777216 ≡ 0 = omega arith in
    rw (sum, e) (ap pos none)

from_below : (n k : ℕ) → k ≤ n → (n - k) / 16777216 + 1 ≡ nearest (suc n) 16777216 → shr_z (negsuc n +ℤ pos k) 16777216 ≡ neg_ℤ (pos (nearest (suc n) 16777216))
from_below n k reach e =
    let sum : negsuc n +ℤ pos k ≡ negsuc (n - k) = omega (arith, ints) in
    rw (sum, ← e, add-one) refl

-- the shift of a sum that began below 0
shifted-negsuc : (n k : ℕ) → k ≡ 8388607 + suc (n / 16777216) % 2 →
    shr_z (negsuc n +ℤ pos 8388607 +ℤ pos (suc (n / 16777216) % 2)) 16777216 ≡ neg_ℤ (pos (nearest (suc n) 16777216))
shifted-negsuc n k e =
    let total : negsuc n +ℤ pos 8388607 +ℤ pos (suc (n / 16777216) % 2) ≡ negsuc n +ℤ pos k = omega (arith, ints) in
    rw total
    (⊎_elim (λ below. reaching_zero n k below (shifted-to_zero n k e below) (omega arith))
    (λ reach. from_below n k reach (shifted-down n k e reach)) (cases_lt n k))

-- for every number
pub shifted_is : (p odd : ℤ) → odd ≡ pos (unsigned_abs (shr_z p 16777216) % 2) → shr_z (p +ℤ pos 8388607 +ℤ odd) 16777216 ≡ near p (pos 16777216)
shifted_is (pos n) odd e = rw e (ap pos (shifted-up n) ∙ sym (near-pos_pos n 16777216))
shifted_is (negsuc n) odd e = rw (e, near-negsuc_pos n 16777216) (shifted-negsuc n (8388607 + suc (n / 16777216) % 2) refl)
