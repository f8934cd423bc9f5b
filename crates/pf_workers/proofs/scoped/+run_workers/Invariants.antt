use Rattle.std.proofs.Common.{length}
use Rattle.pf_workers.proofs.scoped.+run_workers.Given as goal

-- proposed from what the function passes where it calls itself
abbrev pub decreases-run_workers : goal.decreases-run_workers
decreases-run_workers g l = length l.stacks.now
