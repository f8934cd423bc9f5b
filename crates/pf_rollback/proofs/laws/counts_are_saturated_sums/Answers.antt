use Rattle.pf_rollback.proofs.Cores.{count_sum}
use Rattle.pf_rollback.proofs.laws.counts_are_saturated_sums.Goals as goal

pub returns : goal.returns
returns c = count_sum
