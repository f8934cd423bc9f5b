-- Doubles that hold fractions z / c exactly: their sums, differences and order are those of the
-- whole numbers z.
use Rattle.std.proofs.Common.{◌≡◌, ℕ, zero, suc, ◌+◌, ◌-◌, ◌*◌, ◌/◌, ◌<◌, ◌≤◌, ◌^◌, ℤ, pos, negsuc, neg_ℤ, ◌+ℤ◌, ◌-ℤ◌, Bool, true, false, not, ltb, T, int_lt, ⊎_elim, refl, sym, ap, ◌∙◌, subst, arith, lit≤, lit<}
use Rattle.std.proofs.lemmas.Bool.{cases_lt}
use Rattle.std.proofs.lemmas.Bool.Decides.{nat_tests}
use Rattle.std.proofs.lemmas.Int.{ints}
use Rattle.pf_num.specs.Round.{with_sign}
use Rattle.pf_lanes.specs.Doubles.{double_of, numerator, FitsDouble}
use Rattle.pf_lanes.proofs.Values.{add_values, sub_values, lt_values, neg_value}
use lib.Ieee.{Float, nan, inf, fin, binary64, up, down, round, sum, add, sub, neg, below, lt}
use lib.Ieee.Exact.{HasValue, round_exact}
use lib.Ieee.Back.{round_whole}
use lib.Ieee.Fits.{down_pos}
use native.Mathlib.Nat.{mul-div_cancel, mul-lt-mul_of_pos_right, lt_of_lt_of_le, eq-or-lt_of_le}

-- doubles hold the fractions n / c exactly, for n up to 2^53
pub record IsScale (c : ℕ) : Type 0 where
  pub some : 0 < c
  pub exact : (s : Bool) (n : ℕ) → n ≤ 9007199254740992 → HasValue (round binary64 s n c) s n c

pub whole_scale : IsScale 1
whole_scale = record { some = lit< tt; exact = λ s n h. round_whole binary64 s n h }

times_literal : (n a b : ℕ) → n * (a * b) ≡ n * a * b
times_literal n a b = omega arith

below_fixed : (s : Bool) (n : ℕ) → n < 9007199254740992 → HasValue (round binary64 s n 16777216) s n 16777216
below_fixed s n h =
    round_exact binary64 s n 16777216 n 1050 (lit< tt) h
    (let more : n * 2 ^ 1050 < 9007199254740992 * 2 ^ 1050 = mul-lt-mul_of_pos_right h (lit< tt) in lt_of_lt_of_le more (lit≤ tt))
    (times_literal n (2 ^ 1050) 16777216)

top_fixed : (s : Bool) → HasValue (round binary64 s 9007199254740992 16777216) s 9007199254740992 16777216
top_fixed s = round_exact binary64 s 9007199254740992 16777216 1 1103 (lit< tt) (lit< tt) (lit< tt) refl

pub fixed_scale : IsScale 16777216
fixed_scale = record {
  some = lit< tt;
  exact = λ s n h. ⊎_elim
      (λ (e : n ≡ 9007199254740992). subst (λ (x : ℕ). HasValue (round binary64 s x 16777216) s x 16777216) (sym e) (top_fixed s))
      (λ (l : n < 9007199254740992). below_fixed s n l)
      (eq-or-lt_of_le h);
}

pub less_than : (a b : ℕ) → a < b → ltb a b ≡ true
less_than a b h = grind (arith, nat_tests)

pub not_less_than : (a b : ℕ) → b ≤ a → ltb a b ≡ false
not_less_than a b h = grind (arith, nat_tests)

-- ---- the number that a double holds

numerator_value : (x : Float) (s : Bool) (n c : ℕ) → HasValue x s n c → numerator c x ≡ with_sign s n
unfolding numerator
numerator_value nan s n c p = absurd p
numerator_value (inf u) s n c p = absurd p
numerator_value (fin u m e) s n c p =
    let cut : m * up e * c / down e ≡ n = ap (λ (x : ℕ). x / down e) p.1 ∙ mul-div_cancel n (down_pos e) in
    signed u m e c ∙ (λ i. with_sign (p.0 i) (cut i))
  where
    signed : (u : Bool) (m : ℕ) (e : ℤ) (c : ℕ) → numerator c (fin u m e) ≡ with_sign u (m * up e * c / down e)
    signed true m e c = refl
    signed false m e c = refl

module _ (c : ℕ) (scale : IsScale c) where
  pub numerator-double_of : (z : ℤ) → FitsDouble z → numerator c (double_of c z) ≡ z
  unfolding double_of
  numerator-double_of (pos n) h = numerator_value _ false n c (scale.exact false n h)
  numerator-double_of (negsuc n) h = numerator_value _ true (suc n) c (scale.exact true (suc n) h)

  -- ---- sums

  sum_same_signs : (a b : ℕ) → round binary64 true (suc a + b) c ≡ double_of c (negsuc a +ℤ neg_ℤ (pos b))
  unfolding double_of
  sum_same_signs a b =
      let total : negsuc a +ℤ neg_ℤ (pos b) ≡ negsuc (a + b) = omega (arith, ints) in
      let size : suc a + b ≡ suc (a + b) = omega arith in
      rw (total, size) refl

  above : (a b : ℕ) → b ≤ a → round binary64 false (a - b) c ≡ double_of c (pos a +ℤ neg_ℤ (pos b))
  unfolding double_of
  above a b h = let total : pos a +ℤ neg_ℤ (pos b) ≡ pos (a - b) = omega (arith, ints) in rw total refl

  under : (a b : ℕ) → a < b → round binary64 true (b - a) c ≡ double_of c (pos a +ℤ neg_ℤ (pos b))
  unfolding double_of
  under a b h =
      let total : pos a +ℤ neg_ℤ (pos b) ≡ negsuc (b - suc a) = omega (arith, ints) in
      let size : b - a ≡ suc (b - suc a) = omega arith in
      rw (total, size) refl

  -- a sum with its signs, where it is not one of two zeros with a minus
  pub sum_is : (s t : Bool) (a b : ℕ) → (T s → 0 < a) → sum binary64 s a t b c ≡ double_of c (with_sign s a +ℤ with_sign t b)
  unfolding sum
  sum_is false false a b h = unfold double_of in refl
  sum_is false true a b h =
      ⊎_elim
      (λ (k : a < b). let less = less_than a b k in rw less (under a b k))
      (λ (k : b ≤ a). let less = not_less_than a b k in rw less (above a b k))
      (cases_lt a b)
  sum_is true false a b h =
      let turned : neg_ℤ (pos a) +ℤ pos b ≡ pos b +ℤ neg_ℤ (pos a) = omega (arith, ints) in
      ⊎_elim
      (λ (k : a < b). let less = less_than a b k in rw (less, turned) (above b a (omega arith)))
      (λ (k : b ≤ a). let less = not_less_than a b k in rw (less, turned)
      (⊎_elim
      (λ (l : b < a). let more = less_than b a l in rw more (under b a l))
      (λ (l : a ≤ b). let more = not_less_than b a l in let none : a - b ≡ b - a = omega arith in rw (more, none) (above b a l))
      (cases_lt b a)))
      (cases_lt a b)
  sum_is true true zero b h = absurd (omega (arith, h tt))
  sum_is true true (suc a) b h = sum_same_signs a b

  -- the values of two doubles
  value : (z : ℤ) → FitsDouble z → (s : Bool) × (n : ℕ) × HasValue (double_of c z) s n c × (z ≡ with_sign s n) × (T s → 0 < n)
  unfolding double_of
  value (pos n) h = (false, n, scale.exact false n h, refl, λ t. absurd t)
  value (negsuc n) h = (true, suc n, scale.exact true (suc n) h, refl, λ t. omega arith)

  pub add_doubles : (z w : ℤ) → FitsDouble z → FitsDouble w → add binary64 (double_of c z) (double_of c w) ≡ double_of c (z +ℤ w)
  add_doubles z w hz hw =
      let a = value z hz in
      let b = value w hw in
      add_values _ _ a.0 b.0 a.1 b.1 c scale.some a.2 b.2 ∙ sum_is a.0 b.0 a.1 b.1 a.4 ∙ (λ i. double_of c (sym a.3 i +ℤ sym b.3 i))

  pub turned_sign : (t : Bool) (n : ℕ) → with_sign (not t) n ≡ neg_ℤ (with_sign t n)
  turned_sign true n = omega (arith, ints)
  turned_sign false n = refl

  pub sub_doubles : (z w : ℤ) → FitsDouble z → FitsDouble w → sub binary64 (double_of c z) (double_of c w) ≡ double_of c (z -ℤ w)
  sub_doubles z w hz hw =
      let a = value z hz in
      let b = value w hw in
      let turned : with_sign (not b.0) b.1 ≡ neg_ℤ w = turned_sign b.0 b.1 ∙ ap neg_ℤ (sym b.3) in
      sub_values _ _ a.0 b.0 a.1 b.1 c scale.some a.2 b.2 ∙ sum_is a.0 (not b.0) a.1 b.1 a.4 ∙ (λ i. double_of c (sym a.3 i +ℤ turned i))

  -- ---- order

  below_is : (s t : Bool) (a b : ℕ) → below s a t b ≡ int_lt (with_sign s a) (with_sign t b)
  below_is false false a b = grind (arith, ints, nat_tests)
  below_is false true a b = grind (arith, ints, nat_tests)
  below_is true false a b = grind (arith, ints, nat_tests)
  below_is true true a b = grind (arith, ints, nat_tests)

  pub lt_doubles : (z w : ℤ) → FitsDouble z → FitsDouble w → lt (double_of c z) (double_of c w) ≡ int_lt z w
  lt_doubles z w hz hw =
      let a = value z hz in
      let b = value w hw in
      lt_values _ _ a.0 b.0 a.1 b.1 c scale.some a.2 b.2 ∙ below_is a.0 b.0 a.1 b.1 ∙ (λ i. int_lt (sym a.3 i) (sym b.3 i))

  -- against minus a double
  pub lt_minus_double : (z w : ℤ) → FitsDouble z → FitsDouble w → lt (double_of c z) (neg (double_of c w)) ≡ int_lt z (neg_ℤ w)
  lt_minus_double z w hz hw =
      let a = value z hz in
      let b = value w hw in
      let turned : with_sign (not b.0) b.1 ≡ neg_ℤ w = turned_sign b.0 b.1 ∙ ap neg_ℤ (sym b.3) in
      lt_values _ _ a.0 (not b.0) a.1 b.1 c scale.some a.2 (neg_value _ b.0 b.1 c b.2) ∙ below_is a.0 (not b.0) a.1 b.1 ∙ (λ i. int_lt (sym a.3 i) (turned i))
