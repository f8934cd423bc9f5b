-- The last bit of a whole number in two's complement says whether its magnitude is odd.
use Rattle.std.proofs.Common.{◌≡◌, ℕ, suc, ◌-◌, ◌%◌, ◌^◌, ◌<◌, ℤ, pos, negsuc, ap, ◌∙◌, arith, w64, FitsSigned}
use Rattle.std.proofs.lemmas.Int.{ints, to_z_pos}
use Rattle.std.proofs.lemmas.Nat.{and_mask}
use Rattle.std.specs.Int.{cast_unsigned, cast_signed}
use Rattle.std.specs.Int.RustNames.{unsigned_abs, bit_and}

-- the last bit of a number from 0 on
odd-pos : (m : ℕ) → cast_signed w64 (bit_and (cast_unsigned w64 (pos m)) 1) ≡ pos (m % 2)
odd-pos m = ap (cast_signed w64) (and_mask m 1) ∙ to_z_pos w64 (m % 2) (omega arith)

-- the last bit of a number below 0, in two's complement
odd-negsuc : (m : ℕ) → m < 2 ^ 63 → cast_signed w64 (bit_and (cast_unsigned w64 (negsuc m)) 1) ≡ pos (suc m % 2)
odd-negsuc m h =
    ap (cast_signed w64) (and_mask (2 ^ 64 - suc m) 1 ∙ (let e : (2 ^ 64 - suc m) % 2 ≡ suc m % 2 = omega arith in e))
    ∙ to_z_pos w64 (suc m % 2) (omega arith)

pub odd_is : (z : ℤ) → FitsSigned w64 z → cast_signed w64 (bit_and (cast_unsigned w64 z) 1) ≡ pos (unsigned_abs z % 2)
odd_is (pos m) h = odd-pos m
odd_is (negsuc m) h = odd-negsuc m (omega (arith, ints))
