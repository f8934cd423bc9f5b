-- Four rounded products side by side, shifted.
use Rattle.std.proofs.Common.{◌≡◌, ◌+◌, ◌≤◌, ℤ, neg_ℤ, ◌+ℤ◌, ◌-ℤ◌, List, refl, sym, ap, ◌∙◌, subst, arith}
use Rattle.std.proofs.lemmas.Int.{ints, clamps}
use Rattle.std.specs.Int.RustNames.{unsigned_abs}
use Rattle.pf_num.specs.Fx.{saturate, sum, difference, product}
use Rattle.pf_num.proofs.Operations.{product-neg_left}
use Rattle.pf_lanes.specs.Lanes.{Lane, Lanes, number_in}
use Rattle.pf_lanes.specs.Shifted.{shift, unshifted, AreShifted}
use Rattle.pf_lanes.specs.Doubles.{double_of, numerators, FitsDouble, IsExact}
use Rattle.pf_lanes.proofs.ByLane.{zip_lanes, rounded_product, number_in-zip_lanes}
use Rattle.pf_lanes.proofs.Sums.{whole_scale, add_doubles, sub_doubles}
use Rattle.pf_lanes.proofs.Products.{great, product-small}
use Rattle.pf_lanes.proofs.Shifting.{shifted-unshifted, down_again, number_in-unshifted, product_shifted, opposite_shifted, great_double}
use Rattle.pf_lanes.proofs.Holding.{Calculates, Holds, four, holds_view, exact_is, view_is, zip_holds, calculated_hold}
use Rattle.pf_lanes.proofs.Numbers.{HaveSmallProduct, product_fits, product_is}
use lib.Ieee.{Float, binary64, add, sub, mul}
use lib.Lanes.{zip2}

-- ---- products

-- a rounded product, and that with the other sign, shifted
abbrev pub shifted_product : ℤ → ℤ → ℤ
shifted_product x c = rounded_product x c +ℤ shift

abbrev pub shifted_opposite : ℤ → ℤ → ℤ
shifted_opposite x c = rounded_product (neg_ℤ x) c +ℤ shift

opposite_small : (x c : ℤ) → HaveSmallProduct x c → HaveSmallProduct (neg_ℤ x) c
opposite_small x c h = let same : unsigned_abs (neg_ℤ x) ≡ unsigned_abs x = omega (arith, ints) in rw same h

module _ (xs ys : List Float) (a b : Lanes) (ha : Holds 1 xs a) (hb : Holds 16777216 ys b) (h : (k : Lane) → HaveSmallProduct (number_in k a) (number_in k b)) where
  shifted_fits : (x c : ℤ) → HaveSmallProduct x c → FitsDouble (shifted_product x c)
  shifted_fits x c small = let near = product-small x c (product_fits x c small) in omega (arith, ints)

  pub shifted_product_holds : Holds 1 (zip2 (add binary64) (zip2 (mul binary64) xs ys) (four great)) (zip_lanes shifted_product a b)
  shifted_product_holds =
      let all = zip_holds (λ x y. add binary64 (mul binary64 x y) great) shifted_product 16777216 a b
      (λ k. let x = number_in k a in let c = number_in k b in
      (shifted_fits x c (h k), product_shifted x c (ha.whole k) (hb.whole k) (product_fits x c (h k)))) in
      record { are = (λ i. zip2 (add binary64) (zip2 (mul binary64) (ha.are i) (hb.are i)) (four great)) ∙ all.are; whole = all.whole }

  pub shifted_opposite_holds : Holds 1 (zip2 (sub binary64) (four great) (zip2 (mul binary64) xs ys)) (zip_lanes shifted_opposite a b)
  shifted_opposite_holds =
      let all = zip_holds (λ x y. sub binary64 great (mul binary64 x y)) shifted_opposite 16777216 a b
      (λ k. let x = number_in k a in let c = number_in k b in
      (shifted_fits (neg_ℤ x) c (opposite_small x c (h k)), opposite_shifted x c (ha.whole k) (hb.whole k) (product_fits x c (h k)))) in
      record { are = (λ i. zip2 (sub binary64) (four great) (zip2 (mul binary64) (ha.are i) (hb.are i))) ∙ all.are; whole = all.whole }

-- what a rounded product that is shifted says of the number below
module _ (r a b : Lanes) (k : Lane) where
  pub product_in : r ≡ zip_lanes shifted_product a b → HaveSmallProduct (number_in k a) (number_in k b) → number_in k (unshifted r) ≡ product (number_in k a) (number_in k b)
  product_in e h =
      number_in-unshifted r k ∙ ap (λ (z : ℤ). z -ℤ shift) (ap (number_in k) e ∙ number_in-zip_lanes shifted_product a b k)
      ∙ down_again (rounded_product (number_in k a) (number_in k b)) ∙ sym (product_is (number_in k a) (number_in k b) h)

  pub opposite_in : r ≡ zip_lanes shifted_opposite a b → HaveSmallProduct (number_in k a) (number_in k b) → number_in k (unshifted r) ≡ neg_ℤ (product (number_in k a) (number_in k b))
  opposite_in e h =
      number_in-unshifted r k ∙ ap (λ (z : ℤ). z -ℤ shift) (ap (number_in k) e ∙ number_in-zip_lanes shifted_opposite a b k)
      ∙ down_again (rounded_product (neg_ℤ (number_in k a)) (number_in k b))
      ∙ sym (product_is (neg_ℤ (number_in k a)) (number_in k b) (opposite_small (number_in k a) (number_in k b) h))
      ∙ product-neg_left (number_in k a) (number_in k b)

-- a number below is no greater than a rounded product
pub product_small : (x c z : ℤ) → HaveSmallProduct x c → z ≡ product x c → unsigned_abs z ≤ 536870912
product_small x c z h e = rw (e, product_is x c h) (product-small x c (product_fits x c h))

opposite_size : (x c z : ℤ) → HaveSmallProduct x c → z ≡ neg_ℤ (product x c) → unsigned_abs z ≤ 536870912
opposite_size x c z h e = let small = product_small x c (product x c) h refl in rw e (omega (arith, ints))

module _ (r a b : Lanes) (h : (k : Lane) → HaveSmallProduct (number_in k a) (number_in k b)) where
  pub products_are_shifted : r ≡ zip_lanes shifted_product a b → AreShifted r
  products_are_shifted e = record {
    sums = shifted-unshifted r;
    small = λ k. product_small (number_in k a) (number_in k b) (number_in k (unshifted r)) (h k) (product_in r a b k e (h k));
  }

  pub opposites_are_shifted : r ≡ zip_lanes shifted_opposite a b → AreShifted r
  opposites_are_shifted e = record {
    sums = shifted-unshifted r;
    small = λ k. opposite_size (number_in k a) (number_in k b) (number_in k (unshifted r)) (h k) (opposite_in r a b k e (h k));
  }

-- ---- sums and differences

-- a shifted number, and a number to which one may be added
abbrev IsSmall : ℤ → Type 0
IsSmall y = unsigned_abs (y -ℤ shift) ≤ 536870912

abbrev IsShort : ℤ → Type 0
IsShort x = unsigned_abs x ≤ 2251799813685248

-- what is added is subtracted first by f and p, and then a shifted number is added by g and q; or
-- the other way round
pub record AreSteps (p q : Float → Float → Float) (f g result : ℤ → ℤ → ℤ) : Type 0 where
  first : (x : ℤ) → FitsDouble x → p (double_of 1 x) (double_of 1 shift) ≡ double_of 1 (f x shift)
  second : (x y : ℤ) → FitsDouble x → FitsDouble y → q (double_of 1 x) (double_of 1 y) ≡ double_of 1 (g x y)
  between : (x : ℤ) → IsShort x → FitsDouble (f x shift)
  fits : (x y : ℤ) → IsShort x → IsSmall y → FitsDouble (g (f x shift) y)
  is : (x y : ℤ) → IsShort x → IsSmall y → g (f x shift) y ≡ result x (y -ℤ shift)
  size : (x y : ℤ) → IsSmall y → unsigned_abs (g (f x shift) y) ≤ unsigned_abs x + 536870912

plus_is : (x y : ℤ) → IsShort x → IsSmall y → x -ℤ shift +ℤ y ≡ sum x (y -ℤ shift)
unfolding sum saturate
plus_is x y h small = omega (arith, ints, clamps)

minus_is : (x y : ℤ) → IsShort x → IsSmall y → x +ℤ shift -ℤ y ≡ difference x (y -ℤ shift)
unfolding difference saturate
minus_is x y h small = omega (arith, ints, clamps)

pub plus_steps : AreSteps (sub binary64) (add binary64) (λ x y. x -ℤ y) (λ x y. x +ℤ y) sum
plus_steps = record {
  first = λ x fits. sub_doubles 1 whole_scale x shift fits (omega arith);
  second = add_doubles 1 whole_scale;
  between = λ x h. omega (arith, ints);
  fits = λ x y h small. omega (arith, ints);
  is = plus_is;
  size = λ x y small. omega (arith, ints);
}

pub minus_steps : AreSteps (add binary64) (sub binary64) (λ x y. x +ℤ y) (λ x y. x -ℤ y) difference
minus_steps = record {
  first = λ x fits. add_doubles 1 whole_scale x shift fits (omega arith);
  second = sub_doubles 1 whole_scale;
  between = λ x h. omega (arith, ints);
  fits = λ x y h small. omega (arith, ints);
  is = minus_is;
  size = λ x y small. omega (arith, ints);
}

-- four doubles that hold these results of a and b, each at most 2^29 greater than that of a
pub record AreResults (result : ℤ → ℤ → ℤ) (a b : Lanes) (zs : List Float) : Type 0 where
  pub exact : IsExact 1 zs
  pub value : (k : Lane) → number_in k (numerators 1 zs) ≡ result (number_in k a) (number_in k b)
  pub size : (k : Lane) → unsigned_abs (number_in k (numerators 1 zs)) ≤ unsigned_abs (number_in k a) + 536870912

-- shifted numbers added to four doubles, or subtracted from them
pub shifted_results : (p q : Float → Float → Float) (f g result : ℤ → ℤ → ℤ) → AreSteps p q f g result
    → (xs ys : List Float) (a b sums : Lanes) → IsExact 1 xs → numerators 1 xs ≡ a → IsExact 1 ys → numerators 1 ys ≡ sums
    → AreShifted sums → unshifted sums ≡ b → ((k : Lane) → IsShort (number_in k a))
    → AreResults result a b (zip2 q (zip2 p xs (four great)) ys)
shifted_results p q f g result steps xs ys a b sums exact_x x_is exact_y y_is are b_is h = record {
  exact = exact_is 1 whole_scale _ _ holds;
  value = λ k.
      in_lane k ∙ steps.is (number_in k a) (number_in k sums) (h k) (small k)
      ∙ ap (result (number_in k a)) (sym (number_in-unshifted sums k) ∙ ap (number_in k) b_is);
  size = λ k. rw (in_lane k) (steps.size (number_in k a) (number_in k sums) (small k));
}
  where
    both : ℤ → ℤ → ℤ
    both x y = g (f x shift) y

    small : (k : Lane) → IsSmall (number_in k sums)
    small k = subst (λ (z : ℤ). unsigned_abs z ≤ 536870912) (number_in-unshifted sums k) (are.small k)

    calculates : (x y : ℤ) → IsShort x → FitsDouble y → IsSmall y → Calculates (λ v w. q (p v great) w) both 1 x y
    calculates x y short fits low = (
      steps.fits x y short low,
      ap (λ (m : Float). q (p (double_of 1 x) m) (double_of 1 y)) great_double
          ∙ ap (λ (v : Float). q v (double_of 1 y)) (steps.first x (omega (arith, short)))
          ∙ steps.second (f x shift) y (steps.between x short) fits,
    )

    holds : Holds 1 (zip2 q (zip2 p xs (four great)) ys) (zip_lanes both a sums)
    holds =
        let hx = holds_view 1 xs a exact_x x_is in
        let hy = holds_view 1 ys sums exact_y y_is in
        let all = zip_holds (λ v w. q (p v great) w) both 1 a sums
        (λ k. calculates (number_in k a) (number_in k sums) (h k) (hy.whole k) (small k)) in
        record { are = (λ i. zip2 q (zip2 p (hx.are i) (four great)) (hy.are i)) ∙ all.are; whole = all.whole }

    in_lane : (k : Lane) → number_in k (numerators 1 (zip2 q (zip2 p xs (four great)) ys)) ≡ both (number_in k a) (number_in k sums)
    in_lane k = ap (number_in k) (view_is 1 whole_scale _ _ holds) ∙ number_in-zip_lanes both a sums k

-- ---- the difference of two shifted numbers

both_fit : (x y : ℤ) → IsSmall x → IsSmall y → FitsDouble (x -ℤ y)
both_fit x y h k = omega (arith, ints)

both_is : (x y : ℤ) → IsSmall x → IsSmall y → x -ℤ y ≡ difference (x -ℤ shift) (y -ℤ shift)
unfolding difference saturate
both_is x y h k = omega (arith, ints, clamps)

both_size : (x y : ℤ) → IsSmall x → IsSmall y → unsigned_abs (x -ℤ y) ≤ 1073741824
both_size x y h k = omega (arith, ints)

module _ (xs ys : List Float) (a b : Lanes) (ha : Holds 1 xs a) (hb : Holds 1 ys b) (shifted_a : AreShifted a) (shifted_b : AreShifted b) where
  small_of : (c : Lanes) → AreShifted c → (k : Lane) → IsSmall (number_in k c)
  small_of c h k = subst (λ (z : ℤ). unsigned_abs z ≤ 536870912) (number_in-unshifted c k) (h.small k)

  pub both_hold : Holds 1 (zip2 (sub binary64) xs ys) (zip_lanes (λ x y. x -ℤ y) a b)
  both_hold = calculated_hold xs ys a b ha hb (sub binary64) (λ x y. x -ℤ y)
      (λ k. (
        both_fit (number_in k a) (number_in k b) (small_of a shifted_a k) (small_of b shifted_b k),
        sub_doubles 1 whole_scale (number_in k a) (number_in k b) (ha.whole k) (hb.whole k),
      )) _ refl

  module _ (r : Lanes) (k : Lane) (e : r ≡ zip_lanes (λ x y. x -ℤ y) a b) where
    pub both_in : number_in k r ≡ difference (number_in k (unshifted a)) (number_in k (unshifted b))
    both_in =
        ap (number_in k) e ∙ number_in-zip_lanes (λ x y. x -ℤ y) a b k
        ∙ both_is (number_in k a) (number_in k b) (small_of a shifted_a k) (small_of b shifted_b k)
        ∙ (λ i. difference (sym (number_in-unshifted a k) i) (sym (number_in-unshifted b k) i))

    pub both_size_in : unsigned_abs (number_in k r) ≤ 1073741824
    both_size_in = rw (e, number_in-zip_lanes (λ x y. x -ℤ y) a b k) (both_size (number_in k a) (number_in k b) (small_of a shifted_a k) (small_of b shifted_b k))
