use Rattle.std.proofs.Common.{◌∷◌, ◌+◌, [], subst, sym, take}
use Rattle.pf_links.specs.Link.{backlog_of}
use Rattle.pf_sessions.specs.Rest.{HasTaken}
use Rattle.pf_sessions.proofs.Rests.{take_found, take_missing, taken_then}
use Rattle.pf_sessions.proofs.rest.take_backlog.Goals as goal
use Rattle.pf_sessions.proofs.rest.take_backlog.Goals.{in-Some+in_ok-take, in_default}

pub loop-index-preserved : goal.loop-index-preserved
loop-index-preserved c =
    let first = c.args.core.now in
    let all = backlog_of c.args.sender.now in
    let i = c.loop-index.index in
    elim c.match-waiting.branch [
      | in-Some+in_ok-take w ↦ subst (λ core. HasTaken first core (take (i + 1) all)) (sym w.core-is)
          (subst (HasTaken first w.take.new.core) (sym (take_found all i w.in-Some.frame (sym w.in-Some.ensures)))
          (taken_then first c.loop-index.core w.take.new.core (take i all) (w.in-Some.frame ∷ []) c.loop-index.invariant
          (record { setting = w.take.ensures.setting; peer = w.in_ok-take.ensures.peer; ranges = w.take.ensures.ranges })))
      | in_default w ↦ subst (λ core. HasTaken first core (take (i + 1) all)) (sym w.core-is)
          (subst (HasTaken first c.loop-index.core) (sym (take_missing all i (sym w.in_default.ensures))) c.loop-index.invariant)
    ]
