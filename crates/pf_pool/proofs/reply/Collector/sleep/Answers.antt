use Rattle.std.proofs.Common.{◌≡◌, Some, subst, sym}
use Rattle.std.specs.Prelude.{IfSome}
use Rattle.crossbeam_channel.specs.Claims.{view}
use Rattle.pf_pool.specs.Reply.{IsDoneOf}
use Rattle.pf_pool.specs.declared.reply.Dealt.{Dealt}
use Rattle.pf_pool.proofs.Replying.{takes}
use Rattle.pf_pool.proofs.reply.Collector.sleep.Goals as goal
use Rattle.pf_pool.proofs.reply.Collector.sleep.Goals.{in-Ok, in-Err}

pub recv_as-requires-clause-rule : goal.recv_as-requires-clause-rule
recv_as-requires-clause-rule g c = (takes g.T.Task.is_done c.self.inside.pass.id _, λ items views holds at. tt)

pub returns-clause-done : goal.returns-clause-done
returns-clause-done g c =
    let known = view c.self.inside.pass in
    subst (λ dealt. IfSome c.match-recv_as.result (λ answer. (d : Dealt g.row.T-Part.Denot) → dealt ≡ Some d
    → IsDoneOf g.T.Task.is_done d answer.0 answer.1)) c.self.view_is
    (elim c.match-recv_as.branch [
      | in-Ok w ↦ subst (λ read. IfSome read (λ answer. (d : Dealt g.row.T-Part.Denot) → known.dealt ≡ Some d
          → IsDoneOf g.T.Task.is_done d answer.0 answer.1)) (sym w.result-is)
          (w.answer_in.ensures known c.self.invariant.3 (w.in-Ok.ensures.rule.1 c.self.invariant.2))
      | in-Err w ↦ subst (λ read. IfSome read (λ answer. (d : Dealt g.row.T-Part.Denot) → known.dealt ≡ Some d
          → IsDoneOf g.T.Task.is_done d answer.0 answer.1)) (sym w.result-is) tt
    ])
