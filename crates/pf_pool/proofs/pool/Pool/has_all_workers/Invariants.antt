use Rattle.std.proofs.Common.{◌≡◌, ℕ, ◌<◌, false, true, get_or}
use Rattle.pf_pool.proofs.pool.Pool.has_all_workers.Given as goal

abbrev pub invariant-loop-number : goal.invariant-loop-number
invariant-loop-number g l = (i : ℕ) → i < l.number → get_or l.self i false ≡ true
