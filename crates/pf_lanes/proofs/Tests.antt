-- Tests and choices of four doubles by masks, told of the whole numbers that they hold.
use Rattle.std.proofs.Common.{◌≡◌, ℕ, ◌*◌, ◌≤◌, ◌<◌, ◌%◌, ℤ, pos, neg_ℤ, ◌≤ℤ◌, Bool, true, false, not, ◌&&◌, ◌||◌, cond, ltb, T, nat_eq, int_lt, bit_and, bit_or, List, map, w64, to_z, refl, sym, ap, ◌∙◌, subst, arith}
use Rattle.std.proofs.lemmas.Bool.Decides.{nat_tests}
use Rattle.std.proofs.lemmas.Int.{ints}
use Rattle.std.specs.Int.{int_min, int_max}
use Rattle.std.specs.Int.RustNames.{unsigned_abs}
use Rattle.pf_lanes.specs.Lanes.{Lane, First, Second, Third, Fourth, Lanes, number_in}
use Rattle.pf_lanes.specs.Doubles.{double_of, FitsDouble}
use Rattle.pf_lanes.proofs.ByLane.{zip_lanes, four_of, number_in-four_of, in_each}
use Rattle.pf_lanes.proofs.Casts.{limit_double}
use Rattle.pf_lanes.proofs.Holding.{Holds, calculated_hold, four, unit}
use Rattle.pf_lanes.proofs.Limits.{product_is_between}
use Rattle.pf_lanes.proofs.Masks.{mask, select_second, select_first, both_pass, neither_passes}
use Rattle.pf_lanes.proofs.Products.{scaled_double}
use Rattle.pf_lanes.proofs.Sums.{whole_scale, lt_doubles, lt_minus_double}
use lib.Dec.{ltb→lt, lt→ltb}
use lib.Ieee.{Float, binary64, lt, neg, mul, of_int}
use lib.Ieee.Fits.{and_i, and_l, and_r}
use lib.Lanes.{mask_l, sel_l, top, zip2}

-- ---- the lesser and the greater

picked : (b : Bool) (x y : ℤ) → cond b (double_of 1 x) (double_of 1 y) ≡ double_of 1 (cond b x y)
picked true x y = refl
picked false x y = refl

picked_whole : (b : Bool) (x y : ℤ) → FitsDouble x → FitsDouble y → FitsDouble (cond b x y)
picked_whole true x y hx hy = hx
picked_whole false x y hx hy = hy

module _ (xs ys : List Float) (a b : Lanes) (ha : Holds 1 xs a) (hb : Holds 1 ys b) where
  pub least_hold : Holds 1 (sel_l (map (top 63) (zip2 (λ y x. mask (lt y x)) ys xs)) ys xs) (zip_lanes int_min a b)
  least_hold = calculated_hold xs ys a b ha hb (λ x y. cond (lt y x) y x) int_min
      (λ k. let x = number_in k a in let y = number_in k b in (
        picked_whole (int_lt y x) y x (hb.whole k) (ha.whole k),
        ap (λ (t : Bool). cond t (double_of 1 y) (double_of 1 x)) (lt_doubles 1 whole_scale y x (hb.whole k) (ha.whole k)) ∙ picked (int_lt y x) y x,
      ))
      _ (select_second xs ys)

  pub greatest_hold : Holds 1 (sel_l (map (top 63) (zip2 (λ y x. mask (lt y x)) ys xs)) xs ys) (zip_lanes int_max a b)
  greatest_hold = calculated_hold xs ys a b ha hb (λ x y. cond (lt y x) x y) int_max
      (λ k. let x = number_in k a in let y = number_in k b in (
        picked_whole (int_lt y x) x y (ha.whole k) (hb.whole k),
        ap (λ (t : Bool). cond t (double_of 1 x) (double_of 1 y)) (lt_doubles 1 whole_scale y x (hb.whole k) (ha.whole k)) ∙ picked (int_lt y x) x y,
      ))
      _ (select_first xs ys)

-- ---- tests

-- what a test of four lanes says
abbrev pub Says : Bool → Type 0 → Type 0
Says t P = (t ≡ true → P) × (P → t ≡ true)

passes : (t : Bool) → T t → t ≡ true
passes true h = refl
passes false h = absurd h

passed : (t : Bool) → t ≡ true → T t
passed true e = tt
passed false e = cc

-- a test of four lanes, of P in each
each_says : (p : Lane → Bool) (P : Lane → Type 0) → ((k : Lane) → Says (p k) (P k)) → Says (p First && p Second && p Third && p Fourth) ((k : Lane) → P k)
each_says p P h = (
  λ e.
      let t = passed _ e in
      let three = and_l (p First && p Second && p Third) (p Fourth) t in
      let two = and_l (p First && p Second) (p Third) three in
      in_each P (
        (h First).0 (passes _ (and_l (p First) (p Second) two)),
        (h Second).0 (passes _ (and_r (p First) (p Second) two)),
        (h Third).0 (passes _ (and_r (p First && p Second) (p Third) three)),
        (h Fourth).0 (passes _ (and_r (p First && p Second && p Third) (p Fourth) t)),
      ),
  λ all. passes _
      (and_i (p First && p Second && p Third) (p Fourth)
      (and_i (p First && p Second) (p Third)
      (and_i (p First) (p Second) (passed _ ((h First).1 (all First))) (passed _ ((h Second).1 (all Second))))
      (passed _ ((h Third).1 (all Third)))) (passed _ ((h Fourth).1 (all Fourth)))),
)

-- ---- magnitudes

-- the test of `are_within_each`, of the doubles of the limits
abbrev pub within_test : List Float → List Float → Bool
within_test ls xs =
    not (not (nat_eq (mask_l (map (top 63) (zip2 bit_or
    (zip2 (λ p q. mask (lt p q)) ls xs)
    (zip2 (λ p q. mask (lt p q)) xs (map neg ls)))) % 18446744073709551616) 0))

-- a number is neither above a limit nor below minus the limit
inside : ℤ → ℤ → Bool
inside z l = not (int_lt l z || int_lt z (neg_ℤ l))

inside_says : (z l : ℤ) → Says (inside z l) (pos (unsigned_abs z) ≤ℤ l)
unfolding inside
inside_says z l = (λ e. grind (arith, ints, nat_tests), λ h. grind (arith, ints, nat_tests))

within_lane : (z l : ℤ) → FitsDouble z → FitsDouble l
    → not (lt (double_of 1 l) (double_of 1 z) || lt (double_of 1 z) (neg (double_of 1 l))) ≡ inside z l
unfolding inside
within_lane z l hz hl = λ i. not (lt_doubles 1 whole_scale l z hl hz i || lt_minus_double 1 whole_scale z l hz hl i)

pub within_each_says : (xs ls : List Float) (a l : Lanes) → Holds 1 xs a → Holds 1 ls l
    → Says (within_test ls xs) ((k : Lane) → pos (unsigned_abs (number_in k a)) ≤ℤ number_in k l)
within_each_says xs ls a l ha hl =
    let e : within_test ls xs ≡ inside a.first l.first && inside a.second l.second && inside a.third l.third && inside a.fourth l.fourth =
    (λ i. within_test (hl.are i) (ha.are i))
    ∙ neither_passes _ _ _ _ _ _ _ _
    ∙ (λ i. within_lane a.first l.first (ha.whole First) (hl.whole First) i && within_lane a.second l.second (ha.whole Second) (hl.whole Second) i
    && within_lane a.third l.third (ha.whole Third) (hl.whole Third) i && within_lane a.fourth l.fourth (ha.whole Fourth) (hl.whole Fourth) i) in
    let P : Lane → Type 0 = λ k. pos (unsigned_abs (number_in k a)) ≤ℤ number_in k l in
    let says = each_says (λ k. inside (number_in k a) (number_in k l)) P (λ k. inside_says (number_in k a) (number_in k l)) in
    subst (λ (t : Bool). Says t ((k : Lane) → P k)) (sym e) says

-- one limit of all lanes
pub limits_are : (n : ℕ) (l : Lanes) → l ≡ four_of (pos n) → (k : Lane) → number_in k l ≡ pos n
limits_are n l e k = ap (number_in k) e ∙ number_in-four_of (pos n) k

pub within_says : (t : Bool) (a l : Lanes) (n : ℕ) → l ≡ four_of (pos n) → Says t ((k : Lane) → pos (unsigned_abs (number_in k a)) ≤ℤ number_in k l)
    → Says t ((k : Lane) → unsigned_abs (number_in k a) ≤ n)
within_says t a l n e says = (
  λ p k. under (number_in k a) n (subst (λ (z : ℤ). pos (unsigned_abs (number_in k a)) ≤ℤ z) (limits_are n l e k) (says.0 p k)),
  λ h. says.1 (λ k. subst (λ (z : ℤ). pos (unsigned_abs (number_in k a)) ≤ℤ z) (sym (limits_are n l e k)) (over (number_in k a) n (h k))),
)
  where
    under : (z : ℤ) (n : ℕ) → pos (unsigned_abs z) ≤ℤ pos n → unsigned_abs z ≤ n
    under z n h = omega (arith, ints)

    over : (z : ℤ) (n : ℕ) → unsigned_abs z ≤ n → pos (unsigned_abs z) ≤ℤ pos n
    over z n h = omega (arith, ints)

-- ---- products

-- the test of `product_is_below`, of the double of the limit
abbrev pub below_test : Float → List Float → List Float → Bool
below_test y xs ys =
    nat_eq (mask_l (map (top 63) (zip2 bit_and
    (zip2 (λ p q. mask (lt p q)) (zip2 (mul binary64) xs ys) (four y))
    (zip2 (λ p q. mask (lt p q)) (four (neg y)) (zip2 (mul binary64) xs ys)))) % 18446744073709551616) 15

end_double : (l : ℕ) → l ≤ 9007199254740992 → mul binary64 (of_int binary64 (to_z w64 l)) unit ≡ double_of 16777216 (pos l)
end_double l hl = ap (λ (x : Float). mul binary64 x unit) (limit_double l hl) ∙ scaled_double (pos l) hl

-- the exact product is below a limit
below_limit : ℕ → ℤ → ℤ → Bool
below_limit l x c = ltb (unsigned_abs x * unsigned_abs c) l

below_limit_says : (l : ℕ) (x c : ℤ) → Says (below_limit l x c) (unsigned_abs x * unsigned_abs c < l)
unfolding below_limit
below_limit_says l x c = (
  λ e. ltb→lt (unsigned_abs x * unsigned_abs c) l (passed _ e),
  λ h. passes _ (lt→ltb (unsigned_abs x * unsigned_abs c) l h),
)

pub below_says : (xs ys : List Float) (a b : Lanes) (l : ℕ) → Holds 1 xs a → Holds 16777216 ys b → l ≤ 9007199254740992 →
    Says (below_test (mul binary64 (of_int binary64 (to_z w64 l)) unit) xs ys) ((k : Lane) → unsigned_abs (number_in k a) * unsigned_abs (number_in k b) < l)
unfolding below_limit
below_says xs ys a b l ha hb hl =
    let e : below_test (mul binary64 (of_int binary64 (to_z w64 l)) unit) xs ys
    ≡ below_limit l a.first b.first && below_limit l a.second b.second && below_limit l a.third b.third && below_limit l a.fourth b.fourth =
    (λ i. below_test (end_double l hl i) (ha.are i) (hb.are i))
    ∙ both_pass _ _ _ _ _ _ _ _
    ∙ (λ i. product_is_between a.first b.first l (ha.whole First) (hb.whole First) hl i && product_is_between a.second b.second l (ha.whole Second) (hb.whole Second) hl i
    && product_is_between a.third b.third l (ha.whole Third) (hb.whole Third) hl i && product_is_between a.fourth b.fourth l (ha.whole Fourth) (hb.whole Fourth) hl i) in
    let P : Lane → Type 0 = λ k. unsigned_abs (number_in k a) * unsigned_abs (number_in k b) < l in
    let says = each_says (λ k. below_limit l (number_in k a) (number_in k b)) P (λ k. below_limit_says l (number_in k a) (number_in k b)) in
    subst (λ (t : Bool). Says t ((k : Lane) → P k)) (sym e) says
