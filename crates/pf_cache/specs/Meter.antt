-- The meter of the work that steps have done.
use Rattle.std.specs.Prelude.{ℕ, ◌+◌, ◌-◌, ◌^◌, min}

-- how many ticks were simulated, and how many pairs could not reuse kept contact points
pub record Meter : Type 0 where
  pub ticks : ℕ
  pub collides : ℕ

-- the sum of a count and this many, saturated at 2^64 - 1
abbrev pub saturating_sum : ℕ → ℕ → ℕ
saturating_sum count by = min (count + by) (2 ^ 64 - 1)
