-- The test int_lt and the order of whole numbers.
use Rattle.std.proofs.Common.{◌≡◌, ℤ, ◌≤ℤ◌, ◌<ℤ◌, true, false, arith}
use Rattle.std.proofs.lemmas.Bool.Decides.{nat_tests}
use Rattle.std.proofs.lemmas.Int.{ints}
use Rattle.std.specs.Prelude.{int_lt}

pub is_below : (x y : ℤ) → int_lt x y ≡ true → x <ℤ y
is_below x y e = grind (arith, ints, nat_tests)

pub tests_below : (x y : ℤ) → x <ℤ y → int_lt x y ≡ true
tests_below x y h = grind (arith, ints, nat_tests)

pub tests_above : (x y : ℤ) → y ≤ℤ x → int_lt x y ≡ false
tests_above x y h = grind (arith, ints, nat_tests)

-- a failed test gives the reverse order
pub not_above : (x y : ℤ) → int_lt x y ≡ false → y ≤ℤ x
not_above x y e = grind (arith, ints, nat_tests)
