-- An exact product is below a limit up to 2^53 exactly where the double of the product is, however
-- great the product is: rounding is monotone.
use Rattle.std.proofs.Common.{◌≡◌, ℕ, zero, suc, ◌+◌, ◌*◌, ◌<◌, ◌≤◌, ℤ, pos, Bool, true, false, ◌&&◌, cond, ltb, T, ⊎_elim, refl, sym, ap, ◌∙◌, arith, lit<, add_comm}
use Rattle.std.proofs.lemmas.Bool.{cases_lt}
use Rattle.std.proofs.lemmas.Float.{lt_irrefl, lt_of_lt_of_le}
use Rattle.std.proofs.Math.Nat.{mul-le-mul_right}
use Rattle.std.specs.Int.RustNames.{unsigned_abs}
use Rattle.pf_lanes.specs.Doubles.{double_of, FitsDouble}
use Rattle.pf_lanes.proofs.Values.{lt_values, neg_value}
use Rattle.pf_lanes.proofs.Sums.{fixed_scale, less_than, not_less_than}
use Rattle.pf_lanes.proofs.Products.{product_values}
use lib.Ieee.{Float, nan, inf, fin, binary64, round, units, odd, mul, neg, lt, le, below}
use lib.Ieee.Order.{round_mono}

-- ---- minus a double

lt-neg : (x y : Float) → lt (neg x) (neg y) ≡ lt y x
unfolding lt neg
lt-neg nan nan = refl
lt-neg nan (inf t) = refl
lt-neg nan (fin t n d) = refl
lt-neg (inf s) nan = refl
lt-neg (inf true) (inf true) = refl
lt-neg (inf true) (inf false) = refl
lt-neg (inf false) (inf true) = refl
lt-neg (inf false) (inf false) = refl
lt-neg (inf s) (fin t n d) = refl
lt-neg (fin s m e) nan = refl
lt-neg (fin s m e) (inf true) = refl
lt-neg (fin s m e) (inf false) = refl
lt-neg (fin true m e) (fin true n d) = refl
lt-neg (fin true m e) (fin false n d) = refl
lt-neg (fin false m e) (fin true n d) = ap (λ (k : ℕ). ltb 0 k) (add_comm _ _)
lt-neg (fin false m e) (fin false n d) = refl

odd-neg : (d q k l : ℕ) → odd d true q k l ≡ neg (odd d false q k l)
unfolding odd neg
odd-neg d zero k l = refl
odd-neg d (suc q) k l = refl

units-neg : (q k : ℕ) → units binary64 true q k ≡ neg (units binary64 false q k)
unfolding units
units-neg q k = go _
  where
    go : (b : Bool) → cond b (odd 54 true q k 1074) (inf true) ≡ neg (cond b (odd 54 false q k 1074) (inf false))
    go true = odd-neg 54 q k 1074
    go false = unfold neg in refl

round-neg : (n c : ℕ) → round binary64 true n c ≡ neg (round binary64 false n c)
unfolding round
round-neg n c = units-neg _ _

-- ---- limits

no_lt : (x y : Float) → T (le y x) → lt x y ≡ false
no_lt x y h = go (lt x y) (λ t. lt_irrefl x (lt_of_lt_of_le x y x t h))
  where
    go : (b : Bool) → (T b → ⊥) → b ≡ false
    go true f = absurd (f tt)
    go false f = refl

-- x is between -y and y
abbrev pub is_between : Float → Float → Bool
is_between y x = lt x y && lt (neg y) x

small : (s : Bool) (n l : ℕ) → l ≤ 9007199254740992 → n < l → is_between (double_of 16777216 (pos l)) (round binary64 s n 16777216) ≡ true
unfolding double_of
small s n l hl h =
    let x = fixed_scale.exact s n (omega arith) in
    let y = fixed_scale.exact false l hl in
    let most = lt_values _ _ s false n l 16777216 (lit< tt) x y in
    let least = lt_values _ _ true s l n 16777216 (lit< tt) (neg_value _ false l 16777216 y) x in
    (λ i. most i && least i) ∙ both s
  where
    both : (s : Bool) → below s n false l && below true l s n ≡ true
    both true = (λ i. less_than 0 (n + l) (omega arith) i && less_than n l h i)
    both false = (λ i. less_than n l h i && less_than 0 (l + n) (omega arith) i)

great : (s : Bool) (n l : ℕ) → l ≤ n → is_between (double_of 16777216 (pos l)) (round binary64 s n 16777216) ≡ false
unfolding double_of
great s n l h =
    let x = round binary64 false n 16777216 in
    let y = round binary64 false l 16777216 in
    let none : lt x y ≡ false = no_lt x y (round_mono binary64 l 16777216 n 16777216 (lit< tt) (lit< tt) (mul-le-mul_right 16777216 h)) in
    either s none
  where
    no_right : (b : Bool) → b && false ≡ false
    no_right true = refl
    no_right false = refl

    either : (s : Bool) → lt (round binary64 false n 16777216) (round binary64 false l 16777216) ≡ false →
        is_between (round binary64 false l 16777216) (round binary64 s n 16777216) ≡ false
    either false none = λ i. none i && lt (neg (round binary64 false l 16777216)) (round binary64 false n 16777216)
    either true none =
        let x = round binary64 false n 16777216 in
        let y = round binary64 false l 16777216 in
        let turned : lt (neg y) (round binary64 true n 16777216) ≡ false = ap (λ (z : Float). lt (neg y) z) (round-neg n 16777216) ∙ lt-neg y x ∙ none in
        (λ i. lt (round binary64 true n 16777216) y && turned i) ∙ no_right _

round_is_between : (s : Bool) (n l : ℕ) → l ≤ 9007199254740992 → is_between (double_of 16777216 (pos l)) (round binary64 s n 16777216) ≡ ltb n l
round_is_between s n l hl =
    ⊎_elim
    (λ (h : n < l). small s n l hl h ∙ sym (less_than n l h))
    (λ (h : l ≤ n). great s n l h ∙ sym (not_less_than n l h))
    (cases_lt n l)

-- the double of the product of a whole number and a factor
pub product_is_between : (z w : ℤ) (l : ℕ) → FitsDouble z → FitsDouble w → l ≤ 9007199254740992
    → is_between (double_of 16777216 (pos l)) (mul binary64 (double_of 1 z) (double_of 16777216 w)) ≡ ltb (unsigned_abs z * unsigned_abs w) l
product_is_between z w l hz hw hl =
    let p = product_values z w hz hw in
    ap (is_between (double_of 16777216 (pos l))) p.1 ∙ round_is_between p.0 (unsigned_abs z * unsigned_abs w) l hl
