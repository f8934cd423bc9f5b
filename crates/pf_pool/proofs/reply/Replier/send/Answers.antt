use Rattle.std.proofs.Common.{sym}
use Rattle.pf_pool.specs.declared.reply.Answer.{Answer}
use Rattle.pf_pool.proofs.Replying.{answers}
use Rattle.pf_pool.proofs.reply.Replier.send.Goals as goal

pub send_as-requires-clause-rule : goal.send_as-requires-clause-rule
send_as-requires-clause-rule g c =
    let answer : Answer g.row.T-Part.Denot = record { run = c.args.self.run; worker = c.args.worker; done = c.args.done } in
    (answers g.T.Task.is_done _ c.args.self.pass.id _ answer (sym c.args.self.counted) c.requires, λ items views holds at. tt)
