-- Whole numbers from one to another, one number more at a time.
use Rattle.std.proofs.Common.{◌≡◌, ℤ, pos, ◌+ℤ◌, ◌≤ℤ◌, Bool, false, ◌&&◌, ◌||◌, arith}
use Rattle.std.proofs.Common.{int_lt, int_le}
use Rattle.std.specs.Ordering.{int_eq}
use Rattle.std.proofs.lemmas.Bool.Decides.{nat_tests}
use Rattle.std.proofs.lemmas.Int.{ints}
use Rattle.pf_shapes.specs.Bounds.{ranges_overlap}
use Rattle.pf_broad.specs.Cell.{is_between}

-- a number from low on, before the next
abbrev pub passed : ℤ → ℤ → ℤ → Bool
passed low next z = int_le low z && int_lt z next

pub passed-start : (low z : ℤ) → passed low low z ≡ false
passed-start low z = grind (arith, ints, nat_tests)

pub passed-more : (low y z : ℤ) → low ≤ℤ y → passed low (y +ℤ pos 1) z ≡ (passed low y z || int_eq y z)
passed-more low y z h = grind (arith, ints, nat_tests)

pub passed-apart : (low y z : ℤ) → (passed low y z && int_eq y z) ≡ false
passed-apart low y z = grind (arith, ints, nat_tests)

pub passed-end : (low high z : ℤ) → passed low (high +ℤ pos 1) z ≡ is_between low high z
passed-end low high z = grind (arith, ints, nat_tests)

-- the numbers from low on, before the next, and those from lo to hi have one in common
abbrev pub crossed : ℤ → ℤ → ℤ → ℤ → Bool
crossed low next lo hi = int_lt low next && (int_le low hi && (int_lt lo next && int_le lo hi))

pub crossed-start : (low lo hi : ℤ) → crossed low low lo hi ≡ false
crossed-start low lo hi = grind (arith, ints, nat_tests)

pub crossed-more : (low y lo hi : ℤ) → low ≤ℤ y → lo ≤ℤ hi → crossed low (y +ℤ pos 1) lo hi ≡ (crossed low y lo hi || is_between lo hi y)
crossed-more low y lo hi h k = grind (arith, ints, nat_tests)

pub crossed-end : (low high lo hi : ℤ) → low ≤ℤ high → lo ≤ℤ hi → crossed low (high +ℤ pos 1) lo hi ≡ ranges_overlap low high lo hi
crossed-end low high lo hi h k = grind (arith, ints, nat_tests)
