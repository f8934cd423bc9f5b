-- Operations on numbers: exchanged and negated operands, and 0 and 1 as operands.
use Rattle.std.proofs.Common.{◌≡◌, zero, suc, ◌*◌, ◌<◌, ℕ, ℤ, pos, negsuc, neg_ℤ, ◌-ℤ◌, ◌*ℤ◌, Bool, true, false, min, refl, ap, ◌∙◌, not, arith}
use Rattle.std.proofs.lemmas.Int.{ints, clamps}
use Rattle.std.proofs.Math.IntN.{*ℤ_comm, zero-*ℤ}
use Rattle.std.specs.Bool.{beq}
use Rattle.std.specs.Int.{is_negative}
use Rattle.std.specs.Int.RustNames.{unsigned_abs}
use Rattle.pf_num.specs.Round.{IsNear, nearest, near, with_sign, is_opposite}
use Rattle.pf_num.specs.Fx.{one, saturate, sum, difference, product, quotient, IsRaw}
use Rattle.pf_num.proofs.Monotone.{saturated-odd}
use Rattle.pf_num.proofs.Nearest.{meets, unique}
use Rattle.pf_num.proofs.Signs.{product_is, quotient_is, nearest-zero, is_negative-pos}

-- ---- sums and differences

pub sum_comm : (a b : ℤ) → sum a b ≡ sum b a
unfolding sum saturate
sum_comm a b = omega (arith, ints, clamps)

pub difference-swap : (a b : ℤ) → difference a b ≡ neg_ℤ (difference b a)
unfolding difference
difference-swap a b =
    let e : a -ℤ b ≡ neg_ℤ (b -ℤ a) = omega (arith, ints) in rw e (saturated-odd (b -ℤ a))

pub sum-neg : (a b : ℤ) → sum (neg_ℤ a) (neg_ℤ b) ≡ neg_ℤ (sum a b)
unfolding sum saturate
sum-neg a b = omega (arith, ints, clamps)

pub difference-neg : (a b : ℤ) → difference (neg_ℤ a) (neg_ℤ b) ≡ neg_ℤ (difference a b)
unfolding difference saturate
difference-neg a b = omega (arith, ints, clamps)

-- numbers without a difference are equal
pub difference-none : (a b : ℤ) → difference b a ≡ pos 0 → a ≡ b
unfolding difference saturate
difference-none a b e = omega (arith, ints, clamps)

-- a raw number plus or less 0
pub sum-zero : (z : ℤ) → IsRaw z → sum z (pos 0) ≡ z
unfolding sum saturate
sum-zero z h = omega (arith, ints, clamps)

pub zero-sum : (z : ℤ) → IsRaw z → sum (pos 0) z ≡ z
zero-sum z h = sum_comm (pos 0) z ∙ sum-zero z h

pub difference-zero : (z : ℤ) → IsRaw z → difference z (pos 0) ≡ z
unfolding difference saturate
difference-zero z h = omega (arith, ints, clamps)

-- ---- signs of quotients and products

turned_sign : (t : Bool) (m : ℕ) → with_sign (not (beq true t)) m ≡ neg_ℤ (with_sign (not (beq false t)) m)
turned_sign true m = omega (arith, ints)
turned_sign false m = refl

opposite-neg : (n : ℕ) (b : ℤ) (m : ℕ) → with_sign (is_opposite (negsuc n) b) m ≡ neg_ℤ (with_sign (is_opposite (pos (suc n)) b) m)
opposite-neg n b m = rw (is_negative-pos (suc n)) (turned_sign (is_negative b) m)

signed_none : (t : Bool) → with_sign t 0 ≡ pos 0
signed_none true = refl
signed_none false = refl

-- ---- quotients

quotient_of : (a b : ℤ) → 0 < unsigned_abs b
    → with_sign (is_opposite a b) (min (nearest (unsigned_abs a * 16777216) (unsigned_abs b)) 36028797018963967) ≡ quotient a b
quotient_of a b some = quotient_is a b _ some refl

pub quotient-none : (b : ℤ) → 0 < unsigned_abs b → quotient (pos 0) b ≡ pos 0
quotient-none b some = rw (← quotient_of (pos 0) b some, nearest-zero (unsigned_abs b) some) (signed_none (is_opposite (pos 0) b))

-- the quotient of a number's negative
pub quotient-neg : (a b : ℤ) → 0 < unsigned_abs b → quotient (neg_ℤ a) b ≡ neg_ℤ (quotient a b)
quotient-neg (pos zero) b some = let e : quotient (pos 0) b ≡ pos 0 = quotient-none b some in rw e refl
quotient-neg (pos (suc n)) b some = rw (← quotient_of (negsuc n) b some, ← quotient_of (pos (suc n)) b some) (opposite-neg n b _)
quotient-neg (negsuc n) b some = rw (← quotient_of (pos (suc n)) b some, ← quotient_of (negsuc n) b some, opposite-neg n b) (omega (arith, ints))

-- ---- products

pub product_comm : (a b : ℤ) → product a b ≡ product b a
unfolding product
product_comm a b = rw (*ℤ_comm a b) refl

pub product-zero : (b : ℤ) → product (pos 0) b ≡ pos 0
unfolding product near nearest saturate
product-zero b = rw (zero-*ℤ b) refl

product_of : (a b : ℤ) → with_sign (is_opposite a b) (min (nearest (unsigned_abs a * unsigned_abs b) 16777216) 36028797018963967) ≡ product a b
product_of a b = product_is a b _ refl

pub product-neg_left : (a b : ℤ) → product (neg_ℤ a) b ≡ neg_ℤ (product a b)
product-neg_left (pos zero) b = rw (product-zero b) refl
product-neg_left (pos (suc n)) b = rw (← product_of (negsuc n) b, ← product_of (pos (suc n)) b) (opposite-neg n b _)
product-neg_left (negsuc n) b = rw (← product_of (pos (suc n)) b, ← product_of (negsuc n) b, opposite-neg n b) (omega (arith, ints))

pub product-neg : (a b : ℤ) → product a (neg_ℤ b) ≡ neg_ℤ (product a b)
product-neg a b = product_comm a (neg_ℤ b) ∙ product-neg_left b a ∙ ap neg_ℤ (product_comm b a)

itself_is_near : (z : ℤ) → IsNear (z *ℤ one) one z
itself_is_near z = record {
  within = let e : unsigned_abs (z *ℤ one -ℤ z *ℤ one) ≡ 0 = none (z *ℤ one) in omega (arith, e);
  even = λ t. let e : unsigned_abs (z *ℤ one -ℤ z *ℤ one) ≡ 0 = none (z *ℤ one) in absurd (omega (arith, e, t));
}
  where
    none : (x : ℤ) → unsigned_abs (x -ℤ x) ≡ 0
    none x = omega (arith, ints)

near_itself : (z : ℤ) → near (z *ℤ one) one ≡ z
near_itself z = unique (z *ℤ one) one (near (z *ℤ one) one) z (omega arith) (meets (z *ℤ one) one (omega arith)) (itself_is_near z)

saturated-itself : (z : ℤ) → IsRaw z → saturate z ≡ z
unfolding saturate
saturated-itself z h = omega (arith, ints, clamps)

pub product-one : (z : ℤ) → IsRaw z → product one z ≡ z
unfolding product
product-one z h = rw (*ℤ_comm one z, near_itself z) (saturated-itself z h)
