-- The product of a whole number and a factor, rounded to the nearest even.
use Rattle.std.proofs.Common.{◌≡◌, ℕ, suc, ◌+◌, ◌-◌, ◌*◌, ◌<◌, ◌≤◌, ◌^◌, ℤ, pos, negsuc, neg_ℤ, ◌+ℤ◌, ◌-ℤ◌, ◌*ℤ◌, Bool, true, false, refl, sym, ap, ◌∙◌, arith, lit<}
use Rattle.std.proofs.lemmas.Int.{ints, unsigned_abs-mul}
use Rattle.std.specs.Int.RustNames.{unsigned_abs}
use Rattle.pf_num.specs.Round.{near, with_sign}
use Rattle.pf_num.proofs.Nearest.{meets}
use Rattle.pf_lanes.specs.Doubles.{double_of, FitsDouble}
use Rattle.pf_lanes.proofs.Values.{add_values, sub_values, mul_values}
use Rattle.pf_lanes.proofs.Sums.{whole_scale, fixed_scale, less_than, sum_is}
use Rattle.pf_lanes.proofs.Rounding.{closest-meets, rounded_whole, near_shifted}
use lib.Ieee.{Float, fin, binary64, round, sum, add, sub, mul, of_bits, of_fields, odd}
use lib.Ieee.Exact.{HasValue}
use lib.Ieee.Nearest.{closest}
use native.Mathlib.Nat.{mul-one}

-- the great number that is added and subtracted again, 3 * 2^51
abbrev pub great : Float
great = of_bits binary64 4843621399236968448

great_is : great ≡ fin false 3 (pos 51)
unfolding of_bits of_fields odd
great_is = refl

pub great_units : HasValue great false 113336795588871485128704 16777216
great_units = rw great_is (refl, refl)

great_whole : HasValue great false 6755399441055744 1
great_whole = rw great_is (refl, refl)

-- a sum of a small number of units and the great number, which is above 0
pub great_sum : (s : Bool) (a : ℕ) → a < 9007199254740992
    → (n : ℕ) × (sum binary64 s a false 113336795588871485128704 16777216 ≡ round binary64 false n 16777216)
    × (pos n ≡ pos 113336795588871485128704 +ℤ with_sign s a)
unfolding sum
great_sum false a h = (a + 113336795588871485128704, refl, omega (arith, ints))
great_sum true a h =
    let less = less_than a 113336795588871485128704 (omega arith) in
    (113336795588871485128704 - a, rw less refl, omega (arith, ints))

near_zero : (n : ℕ) (s : Bool) (a : ℕ) → a < 9007199254740992 → pos n ≡ pos 113336795588871485128704 +ℤ with_sign s a → (2 ^ 76 ≤ n) × (n < 2 ^ 77)
near_zero n true a h e = (omega (arith, ints), omega (arith, ints))
near_zero n false a h e = (omega (arith, ints), omega (arith, ints))

-- a fraction of units of 2^-24, rounded to the nearest even by the great number
pub rounded : (s : Bool) (a : ℕ) → a < 9007199254740992
    → sub binary64 (add binary64 (round binary64 s a 16777216) great) great ≡ double_of 1 (near (with_sign s a) (pos 16777216))
rounded s a h =
    let lifted = great_sum s a h in
    let n = lifted.0 in
    let range = near_zero n s a h lifted.2 in
    let m = closest n 16777216 in
    let sum_at : add binary64 (round binary64 s a 16777216) great ≡ round binary64 false n 16777216 =
    add_values _ great s false a 113336795588871485128704 16777216 (lit< tt) (fixed_scale.exact s a (omega arith)) great_units ∙ lifted.1 in
    let back : sub binary64 (round binary64 false n 16777216) great ≡ double_of 1 (pos m +ℤ neg_ℤ (pos 6755399441055744)) =
    sub_values _ great false false m 6755399441055744 1 (lit< tt) (rounded_whole n range.0 range.1) great_whole
    ∙ sum_is 1 whole_scale false true m 6755399441055744 (λ t. absurd t) in
    let result : near (with_sign s a) (pos 16777216) ≡ pos m -ℤ pos 6755399441055744 =
    near_shifted (with_sign s a) n m 6755399441055744 lifted.2 (omega arith) (closest-meets n 16777216 (lit< tt)) in
    ap (λ (x : Float). sub binary64 x great) sum_at ∙ back ∙ ap (double_of 1) (sym result)

-- ---- the exact product

pub product_values : (z w : ℤ) → FitsDouble z → FitsDouble w
    → (s : Bool) × (mul binary64 (double_of 1 z) (double_of 16777216 w) ≡ round binary64 s (unsigned_abs z * unsigned_abs w) 16777216)
    × (with_sign s (unsigned_abs z * unsigned_abs w) ≡ z *ℤ w)
unfolding double_of
product_values (pos a) (pos b) hz hw = (
  false,
  mul_values _ _ false false a 1 b 16777216 (lit< tt) (lit< tt) (whole_scale.exact false a hz) (fixed_scale.exact false b hw),
  refl,
)
product_values (pos a) (negsuc b) hz hw = (
  true,
  mul_values _ _ false true a 1 (suc b) 16777216 (lit< tt) (lit< tt) (whole_scale.exact false a hz) (fixed_scale.exact true (suc b) hw),
  refl,
)
product_values (negsuc a) (pos b) hz hw = (
  true,
  mul_values _ _ true false (suc a) 1 b 16777216 (lit< tt) (lit< tt) (whole_scale.exact true (suc a) hz) (fixed_scale.exact false b hw),
  refl,
)
product_values (negsuc a) (negsuc b) hz hw = (
  false,
  mul_values _ _ true true (suc a) 1 (suc b) 16777216 (lit< tt) (lit< tt) (whole_scale.exact true (suc a) hz) (fixed_scale.exact true (suc b) hw),
  refl,
)

-- the rounded product of a whole number and a factor
pub product_double : (z w : ℤ) → FitsDouble z → FitsDouble w → unsigned_abs (z *ℤ w) < 9007199254740992
    → sub binary64 (add binary64 (mul binary64 (double_of 1 z) (double_of 16777216 w)) great) great ≡ double_of 1 (near (z *ℤ w) (pos 16777216))
product_double z w hz hw h =
    let p = product_values z w hz hw in
    let size : unsigned_abs z * unsigned_abs w < 9007199254740992 = rw (← unsigned_abs-mul z w) h in
    ap (λ (x : Float). sub binary64 (add binary64 x great) great) p.1
    ∙ rounded p.0 (unsigned_abs z * unsigned_abs w) size
    ∙ ap (λ (x : ℤ). double_of 1 (near x (pos 16777216))) p.2

-- ---- the constants

-- 2^-24
pub unit_is : of_bits binary64 4499096027743125504 ≡ fin false 1 (negsuc 23)
unfolding of_bits of_fields odd
unit_is = refl

-- 0
pub zero_is : of_bits binary64 0 ≡ double_of 1 (pos 0)
unfolding of_bits of_fields odd double_of round
zero_is = refl

-- a whole number times 2^-24
pub scaled_double : (z : ℤ) → FitsDouble z → mul binary64 (double_of 1 z) (of_bits binary64 4499096027743125504) ≡ double_of 16777216 z
unfolding double_of
scaled_double (pos n) h =
    rw unit_is (mul_values _ (fin false 1 (negsuc 23)) false false n 1 1 16777216 (lit< tt) (lit< tt) (whole_scale.exact false n h) (refl, refl)
    ∙ ap (λ (x : ℕ). round binary64 false x 16777216) (mul-one n))
scaled_double (negsuc n) h =
    rw unit_is (mul_values _ (fin false 1 (negsuc 23)) true false (suc n) 1 1 16777216 (lit< tt) (lit< tt) (whole_scale.exact true (suc n) h) (refl, refl)
    ∙ ap (λ (x : ℕ). round binary64 true x 16777216) (mul-one (suc n)))

-- such a product is at most 2^29 in magnitude
pub product-small : (z w : ℤ) → unsigned_abs (z *ℤ w) < 9007199254740992 → unsigned_abs (near (z *ℤ w) (pos 16777216)) ≤ 536870912
product-small z w h =
    let n = near (z *ℤ w) (pos 16777216) in
    distance (z *ℤ w) (n *ℤ pos 16777216) (unsigned_abs n) (meets (z *ℤ w) (pos 16777216) (lit< tt)).within (unsigned_abs-mul n (pos 16777216)) h
  where
    distance : (p n : ℤ) (x : ℕ) → 2 * unsigned_abs (p -ℤ n) ≤ 16777216 → unsigned_abs n ≡ x * 16777216 → unsigned_abs p < 9007199254740992 → x ≤ 536870912
    distance p n x d e h = omega (arith, ints)
