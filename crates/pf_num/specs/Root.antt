-- Whole square roots, rounded down.
use Rattle.std.specs.Prelude.{ℕ, zero, suc, ◌+◌, ◌*◌, ◌<◌, ◌≤◌, nat_le, if◌then◌else◌}

-- r is the greatest number whose square is at most n
pub record IsRoot (n r : ℕ) : Type 0 where
  pub within : r * r ≤ n
  pub greatest : n < (r + 1) * (r + 1)

-- the whole root of n: that of the number before n, or one more
unfoldable pub whole_root : ℕ → ℕ
whole_root zero = 0
whole_root (suc n) =
    if nat_le ((whole_root n + 1) * (whole_root n + 1)) (suc n) then whole_root n + 1
    else whole_root n
