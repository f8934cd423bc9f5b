-- Signs and magnitudes: a rounded quotient by its magnitude.
use Rattle.std.proofs.Common.{◌≡◌, ℕ, zero, suc, ◌*◌, ◌<◌, ◌≤◌, ℤ, pos, negsuc, ◌*ℤ◌, neg_ℤ, Bool, false, true, refl, sym, ◌∙◌, arith, min, ltb, eqb, ◌^◌, w64, FitsSigned}
use Rattle.std.proofs.lemmas.Bool.Decides.{nat_tests}
use Rattle.std.proofs.lemmas.Int.{ints, clamps, unsigned_abs-mul}
use Rattle.std.proofs.Math.Nat.{mul-le-mul}
use Rattle.std.specs.Int.{int_signum}
use Rattle.std.specs.Int.RustNames.{unsigned_abs}
use Rattle.pf_num.specs.Round.{nearest, near, with_sign, is_opposite}
use Rattle.pf_num.specs.Fx.{saturate, product, quotient}

-- a number from 0 on isn't negative
pub is_negative-pos : (n : ℕ) → ltb n 0 ≡ false
is_negative-pos n = grind (arith, nat_tests)

pub magnitude-neg : (z : ℤ) → unsigned_abs (neg_ℤ z) ≡ unsigned_abs z
magnitude-neg z = omega (arith, ints)

-- 0 by anything is nearest to 0
pub nearest-zero : (q : ℕ) → 0 < q → nearest 0 q ≡ 0
unfolding nearest
nearest-zero q h = grind (arith, nat_tests)

pub near-pos_pos : (p q : ℕ) → near (pos p) (pos q) ≡ pos (nearest p q)
unfolding near
near-pos_pos p q = rw (is_negative-pos p, is_negative-pos q) refl

pub near-negsuc_pos : (p q : ℕ) → near (negsuc p) (pos q) ≡ neg_ℤ (pos (nearest (suc p) q))
unfolding near
near-negsuc_pos p q = rw (is_negative-pos q) refl

pub near-pos_negsuc : (p q : ℕ) → near (pos p) (negsuc q) ≡ neg_ℤ (pos (nearest p (suc q)))
unfolding near
near-pos_negsuc p q = rw (is_negative-pos p) refl

pub near-negsuc_negsuc : (p q : ℕ) → near (negsuc p) (negsuc q) ≡ pos (nearest (suc p) (suc q))
unfolding near
near-negsuc_negsuc p q = refl

-- a saturated magnitude with its sign is the saturated number
pub saturated-with_sign : (s : Bool) (n : ℕ) → saturate (with_sign s n) ≡ with_sign s (min n 36028797018963967)
unfolding saturate
saturated-with_sign true n = omega (arith, ints, clamps)
saturated-with_sign false n = omega (arith, ints, clamps)

pub positive-eqb : (n : ℕ) → 0 < n → eqb n 0 ≡ false
positive-eqb n h = grind (arith, nat_tests)

-- minus a number from 0 on: its magnitude decides
near-neg : (p q : ℕ) → 0 < q → near (neg_ℤ (pos p)) (pos q) ≡ with_sign true (nearest p q)
near-neg zero q h = near-pos_pos zero q ∙ rw (nearest-zero q h) refl
near-neg (suc p) q h = near-negsuc_pos p q

near-neg_negsuc : (p q : ℕ) → near (neg_ℤ (pos p)) (negsuc q) ≡ with_sign false (nearest p (suc q))
unfolding near
near-neg_negsuc zero q = near-pos_negsuc zero q ∙ rw (nearest-zero (suc q) (omega arith)) refl
near-neg_negsuc (suc p) q = refl

-- a product by its magnitudes
pub near-product : (a b : ℤ) (q : ℕ) → 0 < q → near (a *ℤ b) (pos q) ≡ with_sign (is_opposite a b) (nearest (unsigned_abs a * unsigned_abs b) q)
near-product (pos a) (pos b) q h = rw (is_negative-pos a, is_negative-pos b) (near-pos_pos (a * b) q)
near-product (pos a) (negsuc b) q h = rw (is_negative-pos a) (near-neg (a * suc b) q h)
near-product (negsuc a) (pos b) q h = rw (is_negative-pos b) (near-neg (suc a * b) q h)
near-product (negsuc a) (negsuc b) q h = near-pos_pos (suc a * suc b) q

-- a quotient by its magnitudes
pub near-quotient : (a b : ℤ) (k : ℕ) → 0 < unsigned_abs b → near (a *ℤ pos k) b ≡ with_sign (is_opposite a b) (nearest (unsigned_abs a * k) (unsigned_abs b))
near-quotient (pos a) (pos b) k h = rw (is_negative-pos a, is_negative-pos b) (near-pos_pos (a * k) b)
near-quotient (pos a) (negsuc b) k h = rw (is_negative-pos a) (near-pos_negsuc (a * k) b)
near-quotient (negsuc a) (pos b) k h = rw (is_negative-pos b) (near-neg (suc a * k) b h)
near-quotient (negsuc a) (negsuc b) k h = near-neg_negsuc (suc a * k) b

-- a saturated magnitude of a product, with its sign, is the product
pub product_is : (a b : ℤ) (m : ℕ) → m ≡ min (nearest (unsigned_abs a * unsigned_abs b) 16777216) 36028797018963967 →
    with_sign (is_opposite a b) m ≡ product a b
unfolding product
product_is a b m e =
    rw (e, near-product a b 16777216 (omega arith))
    (sym (saturated-with_sign (is_opposite a b) (nearest (unsigned_abs a * unsigned_abs b) 16777216)))

-- a saturated magnitude of a quotient, with its sign, is the quotient
pub quotient_is : (a b : ℤ) (m : ℕ) → 0 < unsigned_abs b → m ≡ min (nearest (unsigned_abs a * 16777216) (unsigned_abs b)) 36028797018963967 →
    with_sign (is_opposite a b) m ≡ quotient a b
unfolding quotient
quotient_is a b m some e =
    rw (positive-eqb (unsigned_abs b) some, e, near-quotient a b 16777216 some)
    (sym (saturated-with_sign (is_opposite a b) (nearest (unsigned_abs a * 16777216) (unsigned_abs b))))

-- a quotient of numbers from 0 on
pub quotient-pos : (p q : ℕ) → 0 < q
    → quotient (pos p) (pos q) ≡ pos (min (nearest (p * 16777216) q) 36028797018963967)
quotient-pos p q some =
    sym (quotient_is (pos p) (pos q) _ some refl) ∙ rw (is_negative-pos p, is_negative-pos q) refl

-- a quotient by 0
pub quotient-zero : (a : ℤ) → quotient a (pos 0) ≡ int_signum a *ℤ pos 36028797018963967
unfolding quotient
quotient-zero a = refl

-- a product that rounds to at most 2^38 doesn't saturate
pub product_in_range : (a b : ℤ) → unsigned_abs (near (a *ℤ b) (pos 16777216)) ≤ 2 ^ 38 → near (a *ℤ b) (pos 16777216) ≡ product a b
unfolding product saturate
product_in_range a b h = omega (arith, ints, clamps)

-- the product of two magnitudes of short numbers is within 2^62
pub short_times : (m n : ℕ) → m ≤ 2147483648 → n ≤ 2147483648 → m * n ≤ 4611686018427387904
short_times m n hm hn = mul-le-mul hm hn

-- a product whose magnitudes' product is within 2^62 is within it, and fits a machine's number
pub product_magnitude : (a b : ℤ) → unsigned_abs a * unsigned_abs b ≤ 4611686018427387904
    → unsigned_abs (a *ℤ b) ≤ 4611686018427387904
product_magnitude a b h = rw (unsigned_abs-mul a b) h

small_fits : (z : ℤ) → unsigned_abs z ≤ 4611686018427387904 → FitsSigned w64 z
small_fits z h = omega (arith, ints)

pub product_fits : (a b : ℤ) → unsigned_abs a * unsigned_abs b ≤ 4611686018427387904
    → FitsSigned w64 (a *ℤ b)
product_fits a b h = small_fits (a *ℤ b) (product_magnitude a b h)
