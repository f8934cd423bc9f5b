use Rattle.pf_events.proofs.Crews.{settle_uses}
use Rattle.pf_events.proofs.answering.answer_of_peer.Goals as goal

pub returns-in-Settle-clause-crew : goal.returns-in-Settle-clause-crew
returns-in-Settle-clause-crew g c =
    let core = c.args.core.now in
    rw c.in-Settle.is (settle_uses g.C.Crew.is_called g.C.Crew.may_fail core c.settle.new.core c.in-Settle.peer c.args.crew.now
    c.settle.result c.settle.new.crew c.settle.ensures.crew)
