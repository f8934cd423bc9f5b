-- Fixed-point numbers: a number is its raw whole number, in units of 2^-24, from -max_raw to
-- max_raw. Each operation is the exact value, rounded to the nearest even (a root down) and then
-- saturated.
use Rattle.std.specs.Prelude.{◌≤◌, ◌*◌, ℤ, pos, ◌+ℤ◌, ◌-ℤ◌, ◌*ℤ◌, neg_ℤ, ◌==◌, if◌then◌else◌}
use Rattle.std.specs.Int.{int_min, int_max, int_signum, is_negative}
use Rattle.std.specs.Int.RustNames.{unsigned_abs}
use Rattle.pf_num.specs.Root.{whole_root}
use Rattle.pf_num.specs.Round.{near}

-- the greatest raw number, 2^55 - 1
abbrev pub max_raw : ℤ
max_raw = pos 36028797018963967

-- the raw number of 1
abbrev pub one : ℤ
one = pos 16777216

-- the raw number of 1/64, the length of a tick in seconds
abbrev pub tick : ℤ
tick = pos 262144

-- a raw number is in the range
abbrev pub IsRaw : ℤ → Type 0
IsRaw z = unsigned_abs z ≤ unsigned_abs max_raw

-- z clamped to the range
unfoldable pub saturate : ℤ → ℤ
saturate z = int_max (neg_ℤ max_raw) (int_min z max_raw)

unfoldable pub sum : ℤ → ℤ → ℤ
sum a b = saturate (a +ℤ b)

unfoldable pub difference : ℤ → ℤ → ℤ
difference a b = saturate (a -ℤ b)

unfoldable pub product : ℤ → ℤ → ℤ
product a b = saturate (near (a *ℤ b) one)

-- by 0 it is the greatest number with the sign of a
unfoldable pub quotient : ℤ → ℤ → ℤ
quotient a b = if unsigned_abs b == 0 then int_signum a *ℤ max_raw else saturate (near (a *ℤ one) b)

-- the greatest r with r * r at most a * 2^24, and 0 for a negative a
unfoldable pub root : ℤ → ℤ
root a = if is_negative a then pos 0 else pos (whole_root (unsigned_abs a * 16777216))
