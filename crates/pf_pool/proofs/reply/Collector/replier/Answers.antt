use Rattle.pf_pool.proofs.Replying.{forks}
use Rattle.pf_pool.proofs.reply.Collector.replier.Goals as goal

pub another-pass-requires-clause-rule : goal.another-pass-requires-clause-rule
another-pass-requires-clause-rule g c = forks g.T.Task.is_done c.self.inside.pass.id _
