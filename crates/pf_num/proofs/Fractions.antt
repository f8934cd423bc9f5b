-- A quotient of numbers with the same sign, the first at most as great as the second, is a fraction
-- from 0 to 1, and a product with such a fraction is between 0 and the other factor.
use Rattle.std.proofs.Common.{◌≡◌, ℕ, zero, suc, ◌+◌, ◌*◌, ◌<◌, ◌≤◌, ℤ, pos, negsuc, neg_ℤ, ◌≤ℤ◌, ◌⊎◌, inl, inr, ⊎_elim, min, refl, sym, ap, ◌∙◌, arith}
use Rattle.std.proofs.lemmas.Bool.{cases_lt}
use Rattle.std.proofs.lemmas.Int.{ints}
use Rattle.std.proofs.Math.Nat.{mul-le-mul_left, mul-le-mul_right}
use Rattle.std.specs.Int.RustNames.{unsigned_abs}
use Rattle.pf_num.specs.Round.{nearest}
use Rattle.pf_num.specs.Fx.{IsRaw, product, quotient}
use Rattle.pf_num.proofs.Nearest.{nearest-meets}
use Rattle.pf_num.proofs.Signs.{quotient-pos, quotient_is, product_is, is_negative-pos}
use Rattle.pf_num.proofs.AtMostOne.{at_most}
use Rattle.pf_num.proofs.Operations.{quotient-none, product-neg_left}

-- t is n / d in units of 2^-24, up to half a unit
pub record IsFraction (n d t : ℕ) : Type 0 where
  pub most : t ≤ 16777216
  pub low : 2 * (n * 16777216) ≤ 2 * (t * d) + d
  pub high : 2 * (t * d) ≤ 2 * (n * 16777216) + d

-- z is between 0 and a, in either order
abbrev pub IsPartOf : ℤ → ℤ → Type 0
IsPartOf a z = ((pos 0 ≤ℤ z) × (z ≤ℤ a)) ⊎ ((a ≤ℤ z) × (z ≤ℤ pos 0))

unsaturated : (t : ℕ) → t ≤ 36028797018963967 → min t 36028797018963967 ≡ t
unsaturated t h = omega arith

-- ---- quotients

pub quotient-zero_left : (b : ℤ) → quotient (pos 0) b ≡ pos 0
unfolding quotient
quotient-zero_left (pos zero) = refl
quotient-zero_left (pos (suc d)) = quotient-none (pos (suc d)) (omega arith)
quotient-zero_left (negsuc d) = quotient-none (negsuc d) (omega arith)

nearest_fraction : (n d : ℕ) → 0 < d → n ≤ d → IsFraction n d (nearest (n * 16777216) d)
nearest_fraction n d some h =
    let meets = nearest-meets (n * 16777216) d some in
    record { most = at_most n d (nearest (n * 16777216) d) h some meets.high; low = meets.low; high = meets.high }

zero_fraction : (d : ℕ) → IsFraction 0 d 0
zero_fraction d = record { most = omega arith; low = omega arith; high = omega arith }

pos_fraction : (n d : ℕ) → 0 < d → n ≤ d → (t : ℕ) × (quotient (pos n) (pos d) ≡ pos t) × IsFraction n d t
pos_fraction n d some h =
    let f = nearest_fraction n d some h in
    (nearest (n * 16777216) d, quotient-pos n d some ∙ ap pos (unsaturated (nearest (n * 16777216) d) (omega (arith, f.most))), f)

negsuc_fraction : (n d : ℕ) → suc n ≤ suc d → (t : ℕ) × (quotient (negsuc n) (negsuc d) ≡ pos t) × IsFraction (suc n) (suc d) t
negsuc_fraction n d h =
    let f = nearest_fraction (suc n) (suc d) (omega arith) h in (
      nearest (suc n * 16777216) (suc d),
      sym (quotient_is (negsuc n) (negsuc d) _ (omega arith) refl)
          ∙ ap pos (unsaturated (nearest (suc n * 16777216) (suc d)) (omega (arith, f.most))),
      f,
    )

pub quotient_fraction : (a b : ℤ) → IsPartOf b a
    → (t : ℕ) × (quotient a b ≡ pos t) × IsFraction (unsigned_abs a) (unsigned_abs b) t
quotient_fraction (pos zero) b h = (0, quotient-zero_left b, zero_fraction (unsigned_abs b))
quotient_fraction (pos (suc n)) (pos d) h =
    let less : suc n ≤ d = ⊎_elim (λ k. omega (arith, ints, k.1)) (λ k. absurd (omega (arith, ints, k.1))) h in
    pos_fraction (suc n) d (omega arith) less
quotient_fraction (negsuc n) (negsuc d) h =
    let less : suc n ≤ suc d = ⊎_elim (λ k. absurd (omega (arith, ints, k.0))) (λ k. omega (arith, ints, k.0)) h in
    negsuc_fraction n d less
quotient_fraction (pos (suc n)) (negsuc d) h =
    absurd (⊎_elim (λ k. omega (arith, ints, k.0, k.1)) (λ k. omega (arith, ints, k.0, k.1)) h)
quotient_fraction (negsuc n) (pos d) h =
    absurd (⊎_elim (λ k. omega (arith, ints, k.0, k.1)) (λ k. omega (arith, ints, k.0, k.1)) h)

-- a fraction of a number by itself is 1
pub whole_fraction : (d t : ℕ) → 0 < d → IsFraction d d t → t ≡ 16777216
whole_fraction d t some f =
    ⊎_elim
    (λ (less : t < 16777216).
    let far : (t + 1) * d ≤ 16777216 * d = mul-le-mul_right d (omega arith) in absurd (omega (arith, far, f.low)))
    (λ (g : 16777216 ≤ t). omega (arith, f.most))
    (cases_lt t 16777216)

-- ---- products

-- z is a times the fraction t, up to half a unit
pub record IsMultiple (a : ℤ) (t : ℕ) (z : ℤ) : Type 0 where
  pub part : IsPartOf a z
  pub low : 2 * (unsigned_abs a * t) ≤ 2 * (unsigned_abs z * 16777216) + 16777216
  pub high : 2 * (unsigned_abs z * 16777216) ≤ 2 * (unsigned_abs a * t) + 16777216

pos_multiple : (r t : ℕ) → t ≤ 16777216 → r ≤ 36028797018963967
    → (p : ℕ) × (product (pos r) (pos t) ≡ pos p) × (p ≤ r) × (2 * (r * t) ≤ 2 * (p * 16777216) + 16777216)
    × (2 * (p * 16777216) ≤ 2 * (r * t) + 16777216)
pos_multiple r t ht raw =
    let p = nearest (r * t) 16777216 in
    let meets = nearest-meets (r * t) 16777216 (omega arith) in
    let most : r * t ≤ r * 16777216 = mul-le-mul_left r ht in
    let short : p ≤ r = omega (arith, meets.high, most) in
    let value : product (pos r) (pos t) ≡ pos (min p 36028797018963967) =
    sym (product_is (pos r) (pos t) _ refl) ∙ rw (is_negative-pos r, is_negative-pos t) refl in
    (p, value ∙ ap pos (unsaturated p (omega arith)), short, meets.low, meets.high)

pub product_multiple : (a : ℤ) (t : ℕ) → t ≤ 16777216 → IsRaw a → IsMultiple a t (product a (pos t))
product_multiple (pos r) t ht raw =
    let m = pos_multiple r t ht raw in
    rw m.1 (record { part = inl (omega (arith, ints), omega (arith, ints, m.2)); low = m.3; high = m.4 })
product_multiple (negsuc r) t ht raw =
    let m = pos_multiple (suc r) t ht raw in
    let turned : product (negsuc r) (pos t) ≡ neg_ℤ (product (pos (suc r)) (pos t)) = product-neg_left (pos (suc r)) (pos t) in
    let size : (p : ℕ) → unsigned_abs (neg_ℤ (pos p)) ≡ p = λ p. omega (arith, ints) in
    rw (turned, m.1)
    (record {
      part = inr (omega (arith, ints, m.2), omega (arith, ints));
      low = rw (size m.0) m.3;
      high = rw (size m.0) m.4;
    })
