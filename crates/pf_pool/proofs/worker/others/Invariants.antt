use Rattle.std.proofs.Common.{◌≡◌, take}
use Rattle.pf_pool.proofs.worker.others.Given as goal

abbrev pub invariant-loop-worker : goal.invariant-loop-worker
invariant-loop-worker g l = l.others.items ≡ take l.worker-index l.workers
