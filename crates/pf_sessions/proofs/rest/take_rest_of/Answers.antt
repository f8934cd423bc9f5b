use Rattle.std.proofs.Common.{subst}
use Rattle.std.proofs.lemmas.Result.{IfOk-weaker}
use Rattle.pf_links.specs.Link.{backlog_of}
use Rattle.pf_scripts.specs.Peer.{fresh}
use Rattle.pf_sessions.specs.Rest.{HasTaken}
use Rattle.pf_sessions.proofs.Rests.{left_is, taken_then}
use Rattle.pf_sessions.proofs.rest.take_rest_of.Goals as goal

pub returns-clause-taken : goal.returns-clause-taken
returns-clause-taken c =
    let core = c.args.core.now in
    let o = c.args.sender.now in
    let p = c.take_ring.new.sender in
    let i = c.args.input.now in
    let j = c.take_ring.new.input in
    let ring = c.in_ok-take_ring.ensures in
    IfOk-weaker c.take_backlog.result (λ _. HasTaken c.take_ring.new.core c.take_backlog.new.core (backlog_of p)) _
    (λ done taken. subst (HasTaken core c.take_backlog.new.core) (left_is o p i j ring.frames ring.later ring.all)
    (taken_then core c.take_ring.new.core c.take_backlog.new.core (fresh i j) (backlog_of p) ring.taken taken)) c.take_backlog.ensures
