-- How great products can be.
use Rattle.std.proofs.Common.{◌≡◌, ℕ, ◌+◌, ◌*◌, ◌<◌, ◌≤◌, ℤ, neg_ℤ, refl, arith}
use Rattle.std.proofs.Math.Nat.{mul-le-mul, mul-le-mul_left}
use Rattle.pf_num.specs.Fx.{difference, sum}

-- a product of a relative velocity, or of an impulse, with a direction
pub times_below : (a b : ℕ) → a ≤ 503316480 → b ≤ 17825792 → a * b < 9007199254740992
times_below a b ha hb = let h : a * b ≤ 503316480 * 17825792 = mul-le-mul ha hb in omega (arith, h)

-- a product of a number up to n, where that of n is below a limit
pub part_below : (a n b m : ℕ) → a ≤ n → n * b < m → a * b < m
part_below a n b m ha h = let below : a * b ≤ n * b = mul-le-mul ha (omega arith) in omega (arith, below, h)

-- a rounded product with a part of a direction is at most twice the other number
pub doubled : (a d r : ℕ) → d ≤ 17825792 → r * 33554432 ≤ a * d * 2 + 16777216 → r ≤ 2 * a
doubled a d r short rounded = let h : a * d ≤ a * 17825792 = mul-le-mul_left a short in omega (arith, h, rounded)

-- a difference is a sum with the other sign
pub differences : (a b : ℤ) → difference a b ≡ sum a (neg_ℤ b)
unfolding difference sum
differences a b = refl
