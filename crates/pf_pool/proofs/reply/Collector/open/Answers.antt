use Rattle.pf_pool.proofs.Replying.{begins}
use Rattle.pf_pool.proofs.reply.Collector.open.Goals as goal

pub bounded_with-requires-clause-rule : goal.bounded_with-requires-clause-rule
bounded_with-requires-clause-rule g c = begins g.T.Task.is_done
