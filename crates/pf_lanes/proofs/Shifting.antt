-- Rounded products shifted by 3 * 2^51.
use Rattle.std.proofs.Common.{◌≡◌, ℕ, zero, suc, ◌*◌, ◌<◌, ◌≤◌, ◌^◌, ℤ, pos, negsuc, neg_ℤ, ◌+ℤ◌, ◌-ℤ◌, ◌*ℤ◌, Bool, true, false, not, ◌-◌, ◌+◌, refl, sym, ap, ◌∙◌, arith, lit<}
use Rattle.std.proofs.lemmas.Int.{ints, unsigned_abs-mul}
use Rattle.std.proofs.Math.IntN.{neg_ℤ-neg_ℤ}
use Rattle.std.specs.Int.RustNames.{unsigned_abs}
use Rattle.pf_num.specs.Round.{near, with_sign}
use Rattle.pf_lanes.specs.Lanes.{Lane, First, Second, Third, Fourth, Lanes, number_in}
use Rattle.pf_lanes.specs.Shifted.{shift, shifted, unshifted}
use Rattle.pf_lanes.specs.Doubles.{double_of, FitsDouble}
use Rattle.pf_lanes.proofs.Values.{add_values, sub_values}
use Rattle.pf_lanes.proofs.Sums.{fixed_scale, whole_scale, not_less_than, turned_sign}
use Rattle.pf_lanes.proofs.Rounding.{closest-meets, rounded_double, near_shifted}
use Rattle.pf_lanes.proofs.Products.{great, great_units, great_sum, product_values}
use lib.Ieee.{Float, binary64, round, sum, add, sub, mul, of_bits, of_fields, odd}
use lib.Ieee.Nearest.{closest}

-- ---- numbers with and without what is added

up_again : (z : ℤ) → z -ℤ shift +ℤ shift ≡ z
up_again z = omega (arith, ints)

pub down_again : (z : ℤ) → z +ℤ shift -ℤ shift ≡ z
down_again z = omega (arith, ints)

pub shifted-unshifted : (a : Lanes) → shifted (unshifted a) ≡ a
shifted-unshifted a = λ i. record {
  first = up_again a.first i;
  second = up_again a.second i;
  third = up_again a.third i;
  fourth = up_again a.fourth i;
}

pub number_in-unshifted : (a : Lanes) (k : Lane) → number_in k (unshifted a) ≡ number_in k a -ℤ shift
number_in-unshifted a First = refl
number_in-unshifted a Second = refl
number_in-unshifted a Third = refl
number_in-unshifted a Fourth = refl

-- ---- the double of a sum with the great number

-- a number of units that is p more than the great number rounds to the nearest whole number of p
shifted_units : (p : ℤ) (n : ℕ) → unsigned_abs p < 9007199254740992 → pos n ≡ pos 113336795588871485128704 +ℤ p
    → round binary64 false n 16777216 ≡ double_of 1 (near p (pos 16777216) +ℤ shift)
unfolding double_of
shifted_units p n h e =
    let m = closest n 16777216 in
    let low : 2 ^ 76 ≤ n = omega (arith, ints) in
    let high : n < 2 ^ 77 - 2 ^ 24 = omega (arith, ints) in
    let result : near p (pos 16777216) ≡ pos m -ℤ pos 6755399441055744 =
    near_shifted p n m 6755399441055744 e (omega arith) (closest-meets n 16777216 (lit< tt)) in
    let back : pos m ≡ near p (pos 16777216) +ℤ shift = omega (arith, ints) in
    rounded_double n low high ∙ ap (double_of 1) back

other_sum : (t : Bool) (a : ℕ) → a < 9007199254740992
    → (n : ℕ) × (sum binary64 false 113336795588871485128704 t a 16777216 ≡ round binary64 false n 16777216)
    × (pos n ≡ pos 113336795588871485128704 +ℤ with_sign t a)
unfolding sum
other_sum false a h = (113336795588871485128704 + a, refl, refl)
other_sum true a h =
    let less = not_less_than 113336795588871485128704 a (omega arith) in
    (113336795588871485128704 - a, rw less refl, omega (arith, ints))

-- a fraction of units and the great number: their sum, and their difference
module _ (s : Bool) (a : ℕ) (h : a < 9007199254740992) where
  sum_shifted : add binary64 (round binary64 s a 16777216) great ≡ double_of 1 (near (with_sign s a) (pos 16777216) +ℤ shift)
  sum_shifted =
      let lifted = great_sum s a h in
      add_values _ great s false a 113336795588871485128704 16777216 (lit< tt) (fixed_scale.exact s a (omega arith)) great_units
      ∙ lifted.1 ∙ shifted_units (with_sign s a) lifted.0 (small s) lifted.2
    where
      small : (s : Bool) → unsigned_abs (with_sign s a) < 9007199254740992
      small false = h
      small true = omega (arith, ints)

  difference_shifted : sub binary64 great (round binary64 s a 16777216) ≡ double_of 1 (near (with_sign (not s) a) (pos 16777216) +ℤ shift)
  difference_shifted =
      let lifted = other_sum (not s) a h in
      sub_values great _ false s 113336795588871485128704 a 16777216 (lit< tt) great_units (fixed_scale.exact s a (omega arith))
      ∙ lifted.1 ∙ shifted_units (with_sign (not s) a) lifted.0 (small (not s)) lifted.2
    where
      small : (t : Bool) → unsigned_abs (with_sign t a) < 9007199254740992
      small false = h
      small true = omega (arith, ints)

-- ---- the double of a product with it

neg-times : (z w : ℤ) → neg_ℤ z *ℤ w ≡ neg_ℤ (z *ℤ w)
neg-times (pos zero) (pos b) = let none : 0 * b ≡ 0 = omega arith in rw none refl
neg-times (pos zero) (negsuc b) = let none : 0 * suc b ≡ 0 = omega arith in rw none refl
neg-times (pos (suc a)) (pos b) = refl
neg-times (pos (suc a)) (negsuc b) = sym (neg_ℤ-neg_ℤ (pos (suc a * suc b)))
neg-times (negsuc a) (pos b) = sym (neg_ℤ-neg_ℤ (pos (suc a * b)))
neg-times (negsuc a) (negsuc b) = refl

module _ (z w : ℤ) (hz : FitsDouble z) (hw : FitsDouble w) (h : unsigned_abs (z *ℤ w) < 9007199254740992) where
  size : unsigned_abs z * unsigned_abs w < 9007199254740992
  size = rw (← unsigned_abs-mul z w) h

  pub product_shifted : add binary64 (mul binary64 (double_of 1 z) (double_of 16777216 w)) great ≡ double_of 1 (near (z *ℤ w) (pos 16777216) +ℤ shift)
  product_shifted =
      let p = product_values z w hz hw in
      ap (λ (x : Float). add binary64 x great) p.1
      ∙ sum_shifted p.0 (unsigned_abs z * unsigned_abs w) size
      ∙ ap (λ (x : ℤ). double_of 1 (near x (pos 16777216) +ℤ shift)) p.2

  pub opposite_shifted : sub binary64 great (mul binary64 (double_of 1 z) (double_of 16777216 w)) ≡ double_of 1 (near (neg_ℤ z *ℤ w) (pos 16777216) +ℤ shift)
  opposite_shifted =
      let p = product_values z w hz hw in
      ap (λ (x : Float). sub binary64 great x) p.1
      ∙ difference_shifted p.0 (unsigned_abs z * unsigned_abs w) size
      ∙ ap (λ (x : ℤ). double_of 1 (near x (pos 16777216) +ℤ shift)) (turned_sign 1 whole_scale p.0 _ ∙ ap neg_ℤ p.2 ∙ sym (neg-times z w))

-- ---- the great number as a double

pub great_double : great ≡ double_of 1 shift
unfolding of_bits of_fields odd double_of round
great_double = refl
