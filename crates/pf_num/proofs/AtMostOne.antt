-- A quotient by a number that is at least as great in magnitude is at most 1 in magnitude.
use Rattle.std.proofs.Common.{◌≡◌, ℕ, ◌+◌, ◌*◌, ◌<◌, ◌≤◌, ℤ, refl, sym, ap, ◌∙◌, ⊎_elim, arith, min}
use Rattle.std.proofs.lemmas.Bool.{cases_lt}
use Rattle.std.proofs.Math.Nat.{mul-le-mul_right}
use Rattle.std.specs.Int.RustNames.{unsigned_abs}
use Rattle.pf_num.specs.Round.{nearest, is_opposite}
use Rattle.pf_num.specs.Fx.{quotient}
use Rattle.pf_num.proofs.Nearest.{nearest-meets}
use Rattle.pf_num.proofs.Range.{abs-with_sign}
use Rattle.pf_num.proofs.Signs.{quotient_is}

pub at_most : (a b n : ℕ) → a ≤ b → 0 < b → 2 * (n * b) ≤ 2 * (a * 16777216) + b → n ≤ 16777216
at_most a b n h some high =
    ⊎_elim
    (λ (above : 16777216 < n). let far : (16777216 + 1) * b ≤ n * b = mul-le-mul_right b (omega arith) in absurd (omega (arith, far)))
    (λ (g : n ≤ 16777216). g)
    (cases_lt 16777216 n)

pub quotient_at_most_one : (a b : ℤ) → unsigned_abs a ≤ unsigned_abs b → 0 < unsigned_abs b → unsigned_abs (quotient a b) ≤ 16777216
quotient_at_most_one a b h some =
    let n = nearest (unsigned_abs a * 16777216) (unsigned_abs b) in
    let meets = nearest-meets (unsigned_abs a * 16777216) (unsigned_abs b) some in
    let short : n ≤ 16777216 = at_most (unsigned_abs a) (unsigned_abs b) n h some meets.high in
    let m = min n 36028797018963967 in
    let magnitude : unsigned_abs (quotient a b) ≡ m = ap unsigned_abs (sym (quotient_is a b m some refl)) ∙ abs-with_sign (is_opposite a b) m in
    omega arith
