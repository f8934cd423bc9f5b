-- The rounded quotient meets its inequality, and is the only whole number that does.
use Rattle.std.proofs.Common.{◌≡◌, ◌≢◌, ℕ, zero, suc, ◌+◌, ◌*◌, ◌/◌, ◌%◌, ◌<◌, ◌≤◌, ℤ, pos, negsuc, ◌+ℤ◌, ◌-ℤ◌, ◌*ℤ◌, neg_ℤ, refl, sym, ap, ◌∙◌, subst, ⊎_elim, ◌⊎◌, inl, inr, arith, zero-mul, add-zero}
use Rattle.std.proofs.lemmas.Bool.{cases_lt}
use Rattle.std.proofs.lemmas.Bool.Decides.{nat_tests}
use Rattle.std.proofs.lemmas.Int.{ints, unsigned_abs-mul}
use Rattle.std.proofs.lemmas.Nat.{div-add-mod', mod_below}
use Rattle.std.proofs.Math.Nat.{mul-le-mul_right}
use Rattle.std.proofs.Math.IntN.{ℤ_ind, suc_ℤ, pred_ℤ, suc_ℤ-*ℤ, pred_ℤ-*ℤ, zero-*ℤ}
use Rattle.std.specs.Int.RustNames.{unsigned_abs}
use Rattle.pf_num.specs.Round.{IsNear, nearest, near, carry}
use Rattle.pf_num.proofs.Signs.{magnitude-neg, near-pos_pos, near-negsuc_pos, near-pos_negsuc, near-negsuc_negsuc}

-- n is nearest to p / q, over numbers from 0 on
pub record IsNearest (p q n : ℕ) : Type 0 where
  pub low : 2 * p ≤ 2 * (n * q) + q
  pub high : 2 * (n * q) ≤ 2 * p + q
  pub even_low : 2 * p ≡ 2 * (n * q) + q → n % 2 ≡ 0
  pub even_high : 2 * (n * q) ≡ 2 * p + q → n % 2 ≡ 0

-- with a quotient d and a remainder r: below a half, above it, and at it
parts_below : (x d r q : ℕ) → x ≡ d * q → 2 * r < q → IsNearest (x + r) q d
parts_below x d r q e h = record { low = omega (arith, e); high = omega (arith, e); even_low = λ t. absurd (omega (arith, e)); even_high = λ t. absurd (omega (arith, e)) }

parts_above : (x d r q : ℕ) → x ≡ d * q → r < q → q < 2 * r → IsNearest (x + r) q (d + 1)
parts_above x d r q e some h = record { low = omega (arith, e); high = omega (arith, e); even_low = λ t. absurd (omega (arith, e)); even_high = λ t. absurd (omega (arith, e)) }

parity : (o : ℕ) → o < 2 → (o ≡ 0) ⊎ (o ≡ 1)
parity o h = ⊎_elim (λ (l : o < 1). inl (omega arith)) (λ (l : 1 ≤ o). inr (omega arith)) (cases_lt o 1)

parts_tie : (x d r q : ℕ) → x ≡ d * q → r < q → q ≡ 2 * r → IsNearest (x + r) q (d + d % 2)
parts_tie x d r q e some h =
    ⊎_elim
    (λ (even : d % 2 ≡ 0). let P : ℕ → Type 0 = λ o. IsNearest (x + r) q (d + o) in subst P (sym even)
    (record { low = omega (arith, e); high = omega (arith, e); even_low = λ t. omega arith; even_high = λ t. omega arith }))
    (λ (odd : d % 2 ≡ 1). let P : ℕ → Type 0 = λ o. IsNearest (x + r) q (d + o) in subst P (sym odd)
    (record { low = omega (arith, e); high = omega (arith, e); even_low = λ t. omega arith; even_high = λ t. omega arith }))
    (parity (d % 2) (mod_below d 2 (omega arith)))

nearest_parts : (d r q : ℕ) → r < q → IsNearest (d * q + r) q (d + carry d r q)
nearest_parts d r q some =
    ⊎_elim
    (λ (h : 2 * r < q). let e : carry d r q ≡ 0 = grind (arith, nat_tests) in rw (e, add-zero) (parts_below (d * q) d r q refl h))
    (λ (g : q ≤ 2 * r). ⊎_elim
    (λ (h : q < 2 * r). let e : carry d r q ≡ 1 = grind (arith, nat_tests) in rw e (parts_above (d * q) d r q refl some h))
    (λ (h : 2 * r ≤ q). let e : carry d r q ≡ d % 2 = grind (arith, nat_tests) in rw e (parts_tie (d * q) d r q refl some (omega arith)))
    (cases_lt q (2 * r)))
    (cases_lt (2 * r) q)

pub nearest-meets : (p q : ℕ) → 0 < q → IsNearest p q (nearest p q)
unfolding nearest
nearest-meets p q some =
    let P : ℕ → Type 0 = λ n. IsNearest n q (p / q + carry (p / q) (p % q) q) in
    subst P (div-add-mod' p q) (nearest_parts (p / q) (p % q) q (mod_below p q some))

-- minus a number times another, by magnitudes
neg_times : (n q : ℕ) → neg_ℤ (pos n) *ℤ pos q ≡ neg_ℤ (pos (n * q))
neg_times zero q = rw (zero-mul q) refl
neg_times (suc n) q = refl

times_neg : (n q : ℕ) → pos n *ℤ negsuc q ≡ neg_ℤ (pos (n * suc q))
times_neg n q = refl

neg_times_neg : (n q : ℕ) → neg_ℤ (pos n) *ℤ negsuc q ≡ pos (n * suc q)
neg_times_neg zero q = rw (zero-mul (suc q)) refl
neg_times_neg (suc n) q = refl

-- how far p is from n * q, whatever the signs
above : (p x q n : ℕ) → 2 * p ≤ 2 * x + q → 2 * x ≤ 2 * p + q → (2 * p ≡ 2 * x + q → n % 2 ≡ 0) → (2 * x ≡ 2 * p + q → n % 2 ≡ 0) →
    (2 * unsigned_abs (pos p -ℤ pos x) ≤ q) × (2 * unsigned_abs (pos p -ℤ pos x) ≡ q → n % 2 ≡ 0)
above p x q n low high even_low even_high = (
  grind (arith, ints),
  λ t. ⊎_elim
      (λ (h : p < x). even_high (grind (arith, ints)))
      (λ (h : x ≤ p). even_low (grind (arith, ints)))
      (cases_lt p x),
)

same_below : (p x : ℕ) → unsigned_abs (neg_ℤ (pos p) -ℤ neg_ℤ (pos x)) ≡ unsigned_abs (pos p -ℤ pos x)
same_below p x = grind (arith, ints)

-- the two facts of IsNear from those over numbers from 0 on
lifted : (p q n : ℕ) → IsNearest p q n → (2 * unsigned_abs (pos p -ℤ pos (n * q)) ≤ q) × (2 * unsigned_abs (pos p -ℤ pos (n * q)) ≡ q → n % 2 ≡ 0)
lifted p q n h = above p (n * q) q n h.low h.high h.even_low h.even_high

pub meets : (p q : ℤ) → 0 < unsigned_abs q → IsNear p q (near p q)
meets (pos p) (pos q) some =
    let l = lifted p q (nearest p q) (nearest-meets p q some) in
    rw (near-pos_pos p q) (record { within = l.0; even = l.1 })
meets (negsuc p) (pos q) some =
    let l = lifted (suc p) q (nearest (suc p) q) (nearest-meets (suc p) q some) in
    rw (near-negsuc_pos p q)
    (record {
      within = rw (neg_times (nearest (suc p) q) q, same_below (suc p) (nearest (suc p) q * q)) l.0;
      even = rw (neg_times (nearest (suc p) q) q, same_below (suc p) (nearest (suc p) q * q), magnitude-neg (pos (nearest (suc p) q))) l.1;
    })
meets (pos p) (negsuc q) some =
    let l = lifted p (suc q) (nearest p (suc q)) (nearest-meets p (suc q) some) in
    rw (near-pos_negsuc p q)
    (record {
      within = rw (neg_times_neg (nearest p (suc q)) q) l.0;
      even = rw (neg_times_neg (nearest p (suc q)) q, magnitude-neg (pos (nearest p (suc q)))) l.1;
    })
meets (negsuc p) (negsuc q) some =
    let l = lifted (suc p) (suc q) (nearest (suc p) (suc q)) (nearest-meets (suc p) (suc q) some) in
    rw (near-negsuc_negsuc p q)
    (record {
      within = rw (times_neg (nearest (suc p) (suc q)) q, same_below (suc p) (nearest (suc p) (suc q) * suc q)) l.0;
      even = rw (times_neg (nearest (suc p) (suc q)) q, same_below (suc p) (nearest (suc p) (suc q) * suc q)) l.1;
    })

-- two nearest numbers are equal: their distance times q is at most q, and at q both would be even
distances : (u v q k n m : ℕ) → 0 < q → 2 * u ≤ q → 2 * v ≤ q → k * q ≤ u + v → (2 * u ≡ q → n % 2 ≡ 0) → (2 * v ≡ q → m % 2 ≡ 0) →
    (k ≡ 1 → n % 2 ≡ 0 → m % 2 ≡ 0 → ⊥) → k ≡ 0
distances u v q zero n m some hu hv total even_n even_m odd = refl
distances u v q (suc zero) n m some hu hv total even_n even_m odd = absurd (odd refl (even_n (omega arith)) (even_m (omega arith)))
distances u v q (suc (suc k)) n m some hu hv total even_n even_m odd =
    let far : 2 * q ≤ suc (suc k) * q = mul-le-mul_right q (omega arith) in absurd (omega arith)

from_zero : (b : ℤ) → pos 0 +ℤ b ≡ b
from_zero b = omega (arith, ints)

cancel : (n : ℤ) → n +ℤ neg_ℤ n ≡ pos 0
cancel n = omega (arith, ints)

sub : (x y z : ℤ) → y +ℤ z ≡ pos 0 → x +ℤ z ≡ x -ℤ y
sub x y z e = omega (arith, ints)

rest : (p x y : ℤ) → y -ℤ x ≡ (p -ℤ x) -ℤ (p -ℤ y)
rest p x y = omega (arith, ints)

sum_turned : (k o b : ℤ) → k +ℤ o +ℤ b ≡ k +ℤ b +ℤ o
sum_turned k o b = omega (arith, ints)

suc_is : (k : ℤ) → k +ℤ pos 1 ≡ suc_ℤ k
suc_is (pos n) = omega (arith, ints)
suc_is (negsuc zero) = refl
suc_is (negsuc (suc n)) = omega (arith, ints)

pred_is : (k : ℤ) → k +ℤ negsuc 0 ≡ pred_ℤ k
pred_is (pos zero) = refl
pred_is (pos (suc n)) = omega (arith, ints)
pred_is (negsuc n) = omega (arith, ints)

step_up : (k b q : ℤ) → (k +ℤ b) *ℤ q ≡ k *ℤ q +ℤ b *ℤ q → (k +ℤ pos 1 +ℤ b) *ℤ q ≡ (k +ℤ pos 1) *ℤ q +ℤ b *ℤ q
step_up k b q e =
    let left : k +ℤ pos 1 +ℤ b ≡ suc_ℤ (k +ℤ b) = sum_turned k (pos 1) b ∙ suc_is (k +ℤ b) in
    rw (left, suc_is k, suc_ℤ-*ℤ (k +ℤ b) q, suc_ℤ-*ℤ k q, e) (omega (arith, ints))

step_down : (k b q : ℤ) → (k +ℤ b) *ℤ q ≡ k *ℤ q +ℤ b *ℤ q → (k +ℤ negsuc 0 +ℤ b) *ℤ q ≡ (k +ℤ negsuc 0) *ℤ q +ℤ b *ℤ q
step_down k b q e =
    let left : k +ℤ negsuc 0 +ℤ b ≡ pred_ℤ (k +ℤ b) = sum_turned k (negsuc 0) b ∙ pred_is (k +ℤ b) in
    rw (left, pred_is k, pred_ℤ-*ℤ (k +ℤ b) q, pred_ℤ-*ℤ k q, e) (omega (arith, ints))

-- products with a sum
sum_times : (m b q : ℤ) → (m +ℤ b) *ℤ q ≡ m *ℤ q +ℤ b *ℤ q
sum_times m b q =
    ℤ_ind (λ k. (k +ℤ b) *ℤ q ≡ k *ℤ q +ℤ b *ℤ q)
    (rw (zero-*ℤ q) (ap (λ (k : ℤ). k *ℤ q) (from_zero b) ∙ sym (from_zero (b *ℤ q))))
    (λ n e. step_up (pos n) b q e)
    (λ n e. step_down (neg_ℤ (pos n)) b q e)
    m

difference_times : (m n q : ℤ) → (m -ℤ n) *ℤ q ≡ m *ℤ q -ℤ n *ℤ q
difference_times m n q =
    let whole : n *ℤ q +ℤ neg_ℤ n *ℤ q ≡ pos 0 = sym (sum_times n (neg_ℤ n) q) ∙ ap (λ (k : ℤ). k *ℤ q) (cancel n) ∙ zero-*ℤ q in
    sum_times m (neg_ℤ n) q ∙ sub (m *ℤ q) (n *ℤ q) (neg_ℤ n *ℤ q) whole

apart_is : (p q n m : ℤ) → (m -ℤ n) *ℤ q ≡ (p -ℤ n *ℤ q) -ℤ (p -ℤ m *ℤ q)
apart_is p q n m = difference_times m n q ∙ rest p (n *ℤ q) (m *ℤ q)

pub abs-difference : (x y : ℤ) → unsigned_abs (x -ℤ y) ≤ unsigned_abs x + unsigned_abs y
abs-difference x y = grind (arith, ints)

not_both_even : (n m : ℤ) → unsigned_abs (m -ℤ n) ≡ 1 → unsigned_abs n % 2 ≡ 0 → unsigned_abs m % 2 ≡ 0 → ⊥
not_both_even n m e hn hm = grind (arith, ints)

same_number : (n m : ℤ) → unsigned_abs (m -ℤ n) ≡ 0 → n ≡ m
same_number n m e = grind (arith, ints)

pub unique : (p q n m : ℤ) → 0 < unsigned_abs q → IsNear p q n → IsNear p q m → n ≡ m
unique p q n m some hn hm =
    let u = p -ℤ n *ℤ q in
    let v = p -ℤ m *ℤ q in
    let apart : unsigned_abs (m -ℤ n) * unsigned_abs q ≡ unsigned_abs (u -ℤ v) =
    sym (unsigned_abs-mul (m -ℤ n) q) ∙ ap unsigned_abs (apart_is p q n m) in
    let close : unsigned_abs (u -ℤ v) ≤ unsigned_abs u + unsigned_abs v = abs-difference u v in
    same_number n m
    (distances (unsigned_abs u) (unsigned_abs v) (unsigned_abs q) (unsigned_abs (m -ℤ n)) (unsigned_abs n) (unsigned_abs m)
    some hn.within hm.within (omega arith) hn.even hm.even (not_both_even n m))

pub not_zero : (q : ℤ) → q ≢ pos 0 → 0 < unsigned_abs q
not_zero (pos zero) some = absurd (some refl)
not_zero (pos (suc q)) some = omega arith
not_zero (negsuc q) some = omega arith
