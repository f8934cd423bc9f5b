use Rattle.std.proofs.Common.{◌≡◌, replicate, true}
use Rattle.pf_pool.proofs.worker.start.Given as goal

abbrev pub invariant-loop-made : goal.invariant-loop-made
invariant-loop-made g l = l.workers.items ≡ replicate l._made true
