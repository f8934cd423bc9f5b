-- Rounding to the nearest whole number, and of two that are equally near to the even one: the rule
-- that IEEE 754 calls roundTiesToEven, here over whole numbers of any size.
use Rattle.std.specs.Prelude.{◌≡◌, ℕ, ◌+◌, ◌*◌, ◌/◌, ◌%◌, ◌≤◌, ℤ, pos, ◌-ℤ◌, ◌*ℤ◌, neg_ℤ, Bool, true, false, not, nat_lt, if◌then◌else◌}
use Rattle.std.specs.Bool.{beq}
use Rattle.std.specs.Int.{is_negative}
use Rattle.std.specs.Int.RustNames.{unsigned_abs}

-- no whole number is nearer to p / q than n is, and where another is as near n is even
pub record IsNear (p q n : ℤ) : Type 0 where
  pub within : 2 * unsigned_abs (p -ℤ n *ℤ q) ≤ unsigned_abs q
  pub even : 2 * unsigned_abs (p -ℤ n *ℤ q) ≡ unsigned_abs q → unsigned_abs n % 2 ≡ 0

-- what a remainder r of the divisor q adds to the quotient n: 1 above a half, and at a half what
-- makes n even
abbrev pub carry : ℕ → ℕ → ℕ → ℕ
carry n r q = if nat_lt (2 * r) q then 0 else (if nat_lt q (2 * r) then 1 else n % 2)

-- the number nearest to p / q, for numbers from 0 on
unfoldable pub nearest : ℕ → ℕ → ℕ
nearest p q = p / q + carry (p / q) (p % q) q

-- the number of this magnitude, below 0 where the sign is negative
abbrev pub with_sign : Bool → ℕ → ℤ
with_sign true n = neg_ℤ (pos n)
with_sign false n = pos n

-- one of the two numbers is below 0, and the other isn't
abbrev pub is_opposite : ℤ → ℤ → Bool
is_opposite p q = not (beq (is_negative p) (is_negative q))

-- the number nearest to p / q: its sign, and the nearest to its magnitude
unfoldable pub near : ℤ → ℤ → ℤ
near p q = with_sign (is_opposite p q) (nearest (unsigned_abs p) (unsigned_abs q))
