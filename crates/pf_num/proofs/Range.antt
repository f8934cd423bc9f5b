-- Saturated numbers, sums and differences are in range; and how great a product can be.
use Rattle.std.proofs.Common.{◌≡◌, ℕ, zero, suc, ◌+◌, ◌*◌, ◌≤◌, ℤ, Bool, true, false, refl, sym, ap, ◌∙◌, min, arith}
use Rattle.std.proofs.lemmas.Int.{ints, clamps}
use Rattle.std.specs.Int.RustNames.{unsigned_abs}
use Rattle.pf_num.specs.Fx.{IsRaw, saturate, sum, difference, product}
use Rattle.pf_num.specs.Round.{nearest, with_sign, is_opposite}
use Rattle.pf_num.proofs.Nearest.{nearest-meets}
use Rattle.pf_num.proofs.Signs.{product_is}

pub saturated-raw : (z : ℤ) → IsRaw (saturate z)
unfolding saturate
saturated-raw z = omega (arith, ints, clamps)

pub sum-raw : (a b : ℤ) → IsRaw (sum a b)
unfolding sum
sum-raw a b = saturated-raw _

pub difference-raw : (a b : ℤ) → IsRaw (difference a b)
unfolding difference
difference-raw a b = saturated-raw _

pub abs-with_sign : (sign : Bool) (n : ℕ) → unsigned_abs (with_sign sign n) ≡ n
abs-with_sign true zero = refl
abs-with_sign true (suc n) = refl
abs-with_sign false n = refl

-- a product is at most half a unit greater than the exact one
pub product_bound : (a b : ℤ)
    → unsigned_abs (product a b) * 33554432 ≤ unsigned_abs a * unsigned_abs b * 2 + 16777216
product_bound a b =
    let n = nearest (unsigned_abs a * unsigned_abs b) 16777216 in
    let meets = nearest-meets (unsigned_abs a * unsigned_abs b) 16777216 (omega arith) in
    let m = min n 36028797018963967 in
    let magnitude : unsigned_abs (product a b) ≡ m =
    ap unsigned_abs (sym (product_is a b m refl)) ∙ abs-with_sign (is_opposite a b) m in
    omega (arith, meets.high)
