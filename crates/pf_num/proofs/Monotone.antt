-- Rounding and saturating are monotone and odd. So a product with a number from -h to h is at most
-- the product with h.
use Rattle.std.proofs.Common.{◌≡◌, ℕ, zero, suc, ◌+◌, ◌*◌, ◌<◌, ◌≤◌, ℤ, pos, negsuc, ◌*ℤ◌, neg_ℤ, ◌≤ℤ◌, ◌^◌, refl, sym, ap, ◌∙◌, ⊎_elim, arith}
use Rattle.std.proofs.lemmas.Bool.{cases_lt}
use Rattle.std.proofs.lemmas.Int.{ints, clamps, unsigned_abs-mul}
use Rattle.std.proofs.Math.Nat.{mul-le-mul_left, mul-le-mul_right}
use Rattle.std.specs.Int.RustNames.{unsigned_abs}
use Rattle.pf_num.specs.Round.{nearest, near}
use Rattle.pf_num.specs.Fx.{one, saturate, product, quotient}
use Rattle.pf_num.proofs.Nearest.{IsNearest, nearest-meets}
use Rattle.pf_num.proofs.Signs.{near-pos_pos, near-negsuc_pos, nearest-zero, product_in_range, positive-eqb}

-- a quotient that rounds below that of a smaller number would be more than a half off
nearest_ordered : (p r q n m : ℕ) → IsNearest p q n → IsNearest r q m → p < r → n ≤ m
nearest_ordered p r q n m hn hm less =
    ⊎_elim
    (λ (below : m < n). let far : (m + 1) * q ≤ n * q = mul-le-mul_right q (omega arith) in absurd (omega (arith, hn.high, hm.low, far)))
    (λ (h : n ≤ m). h)
    (cases_lt m n)

pub nearest-monotone : (p r q : ℕ) → 0 < q → p ≤ r → nearest p q ≤ nearest r q
nearest-monotone p r q some h =
    ⊎_elim
    (λ (less : p < r). nearest_ordered p r q (nearest p q) (nearest r q) (nearest-meets p q some) (nearest-meets r q some) less)
    (λ (g : r ≤ p). let same : p ≡ r = omega arith in let e = ap (λ (n : ℕ). nearest n q) same in omega arith)
    (cases_lt p r)

signs_ordered : (a b : ℕ) → neg_ℤ (pos a) ≤ℤ pos b
signs_ordered a b = omega (arith, ints)

turned_order : (a b : ℕ) → b ≤ a → neg_ℤ (pos a) ≤ℤ neg_ℤ (pos b)
turned_order a b h = omega (arith, ints)

pos_order : (a b : ℕ) → a ≤ b → pos a ≤ℤ pos b
pos_order a b h = omega (arith, ints)

pub near-monotone : (p r : ℤ) (q : ℕ) → 0 < q → p ≤ℤ r → near p (pos q) ≤ℤ near r (pos q)
near-monotone (pos p) (pos r) q some h =
    rw (near-pos_pos p q, near-pos_pos r q) (pos_order _ _ (nearest-monotone p r q some (omega (arith, ints))))
near-monotone (negsuc p) (pos r) q some h = rw (near-negsuc_pos p q, near-pos_pos r q) (signs_ordered _ _)
near-monotone (negsuc p) (negsuc r) q some h =
    rw (near-negsuc_pos p q, near-negsuc_pos r q) (turned_order _ _ (nearest-monotone (suc r) (suc p) q some (omega (arith, ints))))
near-monotone (pos p) (negsuc r) q some h = absurd (omega (arith, ints))

neg-neg : (a : ℤ) → a ≡ neg_ℤ (neg_ℤ a)
neg-neg a = omega (arith, ints)

pub near-odd : (p : ℤ) (q : ℕ) → 0 < q → near (neg_ℤ p) (pos q) ≡ neg_ℤ (near p (pos q))
near-odd (pos zero) q some = rw (near-pos_pos zero q, nearest-zero q some) refl
near-odd (pos (suc p)) q some = rw (near-negsuc_pos p q, near-pos_pos (suc p) q) refl
near-odd (negsuc p) q some = rw (near-pos_pos (suc p) q, near-negsuc_pos p q) (neg-neg (pos (nearest (suc p) q)))

pub saturated-monotone : (a b : ℤ) → a ≤ℤ b → saturate a ≤ℤ saturate b
unfolding saturate
saturated-monotone a b h = omega (arith, ints, clamps)

pub saturated-odd : (a : ℤ) → saturate (neg_ℤ a) ≡ neg_ℤ (saturate a)
unfolding saturate
saturated-odd a = omega (arith, ints, clamps)

from_abs : (z : ℤ) (n : ℕ) → unsigned_abs z ≤ n → (neg_ℤ (pos n) ≤ℤ z) × (z ≤ℤ pos n)
from_abs z n h = (omega (arith, ints), omega (arith, ints))

-- an exact product with a number from -h to h
pub times_within : (c p h : ℤ) → neg_ℤ h ≤ℤ p → p ≤ℤ h → (neg_ℤ (pos (unsigned_abs c) *ℤ h) ≤ℤ (c *ℤ p)) × ((c *ℤ p) ≤ℤ (pos (unsigned_abs c) *ℤ h))
times_within c p (pos h) low high =
    from_abs (c *ℤ p) (unsigned_abs c * h)
    (rw (unsigned_abs-mul c p) (mul-le-mul_left (unsigned_abs c) (let in_range : unsigned_abs p ≤ h = omega (arith, ints) in in_range)))
times_within c p (negsuc h) low high = absurd (omega (arith, ints))

-- the rounded and saturated product
pub product_within : (c p h : ℤ) → neg_ℤ h ≤ℤ p → p ≤ℤ h →
    (neg_ℤ (product (pos (unsigned_abs c)) h) ≤ℤ product c p) × (product c p ≤ℤ product (pos (unsigned_abs c)) h)
unfolding product
product_within c p h low high =
    let exact = times_within c p h low high in
    let k = pos (unsigned_abs c) *ℤ h in
    let turn : neg_ℤ (saturate (near k (pos 16777216))) ≡ saturate (near (neg_ℤ k) (pos 16777216)) =
    rw (near-odd k 16777216 (omega arith)) (sym (saturated-odd (near k (pos 16777216)))) in (
      rw turn (saturated-monotone _ _ (near-monotone (neg_ℤ k) (c *ℤ p) 16777216 (omega arith) exact.0)),
      saturated-monotone _ _ (near-monotone (c *ℤ p) k 16777216 (omega arith) exact.1),
    )

-- a product of numbers from 0 on, the first at most 1 and the second at most 1024, does not
-- saturate, and is at most a half of a unit too small
pub product_near : (a b : ℕ) → a ≤ 16777216 → b ≤ 17179869184 →
    (n : ℕ) × (product (pos a) (pos b) ≡ pos n) × (2 * (a * b) ≤ 2 * (n * 16777216) + 16777216) × (n ≤ b)
product_near a b ha hb =
    let meets = nearest-meets (a * b) 16777216 (omega arith) in
    let most : a * b ≤ 16777216 * b = mul-le-mul_right b ha in
    let short : nearest (a * b) 16777216 ≤ b = omega (arith, meets.high) in
    let rounded : near (pos (a * b)) (pos 16777216) ≡ pos (nearest (a * b) 16777216) = near-pos_pos (a * b) 16777216 in
    let fits : unsigned_abs (near (pos a *ℤ pos b) (pos 16777216)) ≤ 2 ^ 38 = rw rounded (omega arith) in
    (nearest (a * b) 16777216, sym (product_in_range (pos a) (pos b) fits) ∙ rounded, meets.low, short)

-- an exact product with a number from 0 on
pub times-monotone : (a b c : ℤ) → pos 0 ≤ℤ c → a ≤ℤ b → (a *ℤ c) ≤ℤ (b *ℤ c)
times-monotone (pos a) (pos b) (pos c) some h = pos_order (a * c) (b * c) (mul-le-mul_right c (omega (arith, ints)))
times-monotone (negsuc a) (pos b) (pos c) some h = signs_ordered (suc a * c) (b * c)
times-monotone (negsuc a) (negsuc b) (pos c) some h =
    turned_order (suc a * c) (suc b * c) (mul-le-mul_right c (omega (arith, ints)))
times-monotone (pos a) (negsuc b) (pos c) some h = absurd (omega (arith, ints))
times-monotone a b (negsuc c) some h = absurd (omega (arith, ints))

-- the rounded and saturated product
pub product-monotone : (a b c : ℤ) → pos 0 ≤ℤ c → a ≤ℤ b → product a c ≤ℤ product b c
unfolding product
product-monotone a b c some h =
    saturated-monotone _ _ (near-monotone (a *ℤ c) (b *ℤ c) 16777216 (omega arith) (times-monotone a b c some h))

-- a quotient by a number above 0
pub quotient-monotone : (a b : ℤ) (n : ℕ) → 0 < n → a ≤ℤ b → quotient a (pos n) ≤ℤ quotient b (pos n)
unfolding quotient
quotient-monotone a b n some h =
    rw (positive-eqb n some)
    (saturated-monotone _ _ (near-monotone (a *ℤ one) (b *ℤ one) n some (times-monotone a b one (omega (arith, ints)) h)))
