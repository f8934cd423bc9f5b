-- The numbers in lanes are those of fixed-point numbers, which do not saturate there, and no greater
-- than these.
use Rattle.std.proofs.Common.{◌≡◌, ℕ, ◌+◌, ◌*◌, ◌≤◌, ◌<◌, ℤ, pos, ◌+ℤ◌, ◌-ℤ◌, ◌*ℤ◌, sym, ap, ◌∙◌, arith, lit<}
use Rattle.std.proofs.lemmas.Int.{ints, clamps, unsigned_abs-mul}
use Rattle.std.specs.Int.RustNames.{unsigned_abs}
use Rattle.pf_num.specs.Fx.{saturate, sum, difference, product}
use Rattle.pf_num.proofs.Nearest.{meets, abs-difference}
use Rattle.pf_num.proofs.Signs.{product_in_range}
use Rattle.pf_lanes.specs.Lanes.{Lane, Lanes, number_in}
use Rattle.pf_lanes.specs.Doubles.{FitsDouble}
use Rattle.pf_lanes.proofs.ByLane.{zip_lanes, number_in-zip_lanes, rounded_product}
use Rattle.pf_lanes.proofs.Products.{product-small}

-- ---- one number

-- two numbers whose sum and difference a double holds exactly
abbrev pub FitTogether : ℤ → ℤ → Type 0
FitTogether x y = unsigned_abs x + unsigned_abs y ≤ 9007199254740992

-- two numbers whose product is below 2^53
abbrev pub HaveSmallProduct : ℤ → ℤ → Type 0
HaveSmallProduct x c = unsigned_abs x * unsigned_abs c < 9007199254740992

pub sum_fits : (x y : ℤ) → FitTogether x y → FitsDouble (x +ℤ y)
sum_fits x y h = omega (arith, ints)

pub difference_fits : (x y : ℤ) → FitTogether x y → FitsDouble (x -ℤ y)
difference_fits x y h = omega (arith, ints)

pub product_fits : (x c : ℤ) → HaveSmallProduct x c → unsigned_abs (x *ℤ c) < 9007199254740992
product_fits x c h = rw (unsigned_abs-mul x c) h

pub sum_is : (x y : ℤ) → FitTogether x y → sum x y ≡ x +ℤ y
unfolding sum saturate
sum_is x y h = omega (arith, ints, clamps)

pub difference_is : (x y : ℤ) → FitTogether x y → difference x y ≡ x -ℤ y
unfolding difference saturate
difference_is x y h = omega (arith, ints, clamps)

pub product_is : (x c : ℤ) → HaveSmallProduct x c → product x c ≡ rounded_product x c
product_is x c h = let small = product-small x c (product_fits x c h) in sym (product_in_range x c (omega arith))

sum_size : (x y : ℤ) → unsigned_abs (x +ℤ y) ≤ unsigned_abs x + unsigned_abs y
sum_size x y = omega (arith, ints)

-- a rounded product is no further from the exact one than half a unit
product_bound : (x c : ℤ) → unsigned_abs (rounded_product x c) * 33554432 ≤ unsigned_abs x * unsigned_abs c * 2 + 16777216
product_bound x c =
    let n = rounded_product x c in
    rw (← unsigned_abs-mul x c) (near_size (x *ℤ c) (n *ℤ pos 16777216) (unsigned_abs n) (meets (x *ℤ c) (pos 16777216) (lit< tt)).within (unsigned_abs-mul n (pos 16777216)))
  where
    near_size : (p n : ℤ) (x : ℕ) → 2 * unsigned_abs (p -ℤ n) ≤ 16777216 → unsigned_abs n ≡ x * 16777216 → x * 33554432 ≤ unsigned_abs p * 2 + 16777216
    near_size p n x d e = omega (arith, ints)

-- ---- a number in a lane

module _ (r a b : Lanes) (k : Lane) where
  pub sum_in : r ≡ zip_lanes (λ x y. x +ℤ y) a b → FitTogether (number_in k a) (number_in k b) → number_in k r ≡ sum (number_in k a) (number_in k b)
  sum_in e h = ap (number_in k) e ∙ number_in-zip_lanes (λ x y. x +ℤ y) a b k ∙ sym (sum_is (number_in k a) (number_in k b) h)

  pub sum_size_in : r ≡ zip_lanes (λ x y. x +ℤ y) a b → unsigned_abs (number_in k r) ≤ unsigned_abs (number_in k a) + unsigned_abs (number_in k b)
  sum_size_in e = rw (e, number_in-zip_lanes (λ x y. x +ℤ y) a b k) (sum_size (number_in k a) (number_in k b))

  pub difference_in : r ≡ zip_lanes (λ x y. x -ℤ y) a b → FitTogether (number_in k a) (number_in k b) → number_in k r ≡ difference (number_in k a) (number_in k b)
  difference_in e h = ap (number_in k) e ∙ number_in-zip_lanes (λ x y. x -ℤ y) a b k ∙ sym (difference_is (number_in k a) (number_in k b) h)

  pub difference_size_in : r ≡ zip_lanes (λ x y. x -ℤ y) a b → unsigned_abs (number_in k r) ≤ unsigned_abs (number_in k a) + unsigned_abs (number_in k b)
  difference_size_in e = rw (e, number_in-zip_lanes (λ x y. x -ℤ y) a b k) (abs-difference (number_in k a) (number_in k b))

  pub product_in : r ≡ zip_lanes rounded_product a b → HaveSmallProduct (number_in k a) (number_in k b) → number_in k r ≡ product (number_in k a) (number_in k b)
  product_in e h = ap (number_in k) e ∙ number_in-zip_lanes rounded_product a b k ∙ sym (product_is (number_in k a) (number_in k b) h)

  pub product_small_in : r ≡ zip_lanes rounded_product a b → HaveSmallProduct (number_in k a) (number_in k b) → unsigned_abs (number_in k r) ≤ 536870912
  product_small_in e h = rw (e, number_in-zip_lanes rounded_product a b k) (product-small (number_in k a) (number_in k b) (product_fits (number_in k a) (number_in k b) h))

  pub product_bound_in : r ≡ zip_lanes rounded_product a b → unsigned_abs (number_in k r) * 33554432 ≤ unsigned_abs (number_in k a) * unsigned_abs (number_in k b) * 2 + 16777216
  product_bound_in e = rw (e, number_in-zip_lanes rounded_product a b k) (product_bound (number_in k a) (number_in k b))
