use Rattle.pf_pool.proofs.Replying.{deals}
use Rattle.pf_pool.proofs.reply.Collector.deal.Goals as goal

pub send_as-requires-clause-rule : goal.send_as-requires-clause-rule
send_as-requires-clause-rule g c =
    (deals g.T.Task.is_done _ c.collector.inside.pass.id _ c.args.dealt c.collector.invariant.2, λ items views holds at. tt)
