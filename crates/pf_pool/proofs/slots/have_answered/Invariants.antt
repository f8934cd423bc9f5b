use Rattle.std.proofs.Common.{ℕ, ◌<◌, ◌≤◌, None, get_or}
use Rattle.std.specs.Prelude.{IsSome}
use Rattle.pf_pool.proofs.slots.have_answered.Given as goal

abbrev pub invariant-loop-worker : goal.invariant-loop-worker
invariant-loop-worker g l = (w : ℕ) → l.fn.least ≤ w → w < l.worker → IsSome (get_or l.slots w None)
