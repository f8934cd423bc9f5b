use Rattle.std.proofs.Common.{ap₂, subst, sym}
use Rattle.std.proofs.lemmas.Result.{IfOk-weaker}
use Rattle.pf_sessions.specs.Rest.{HasTaken, all_left, left_on}
use Rattle.pf_sessions.proofs.Rests.{taken_then}
use Rattle.pf_sessions.proofs.rest.+take_rest.Goals as goal

pub returns-clause-taken : goal.returns-clause-taken
returns-clause-taken t c =
    let core = c.args.core.now in
    let o = c.in-Some.sender.now in
    let i = c.in-Some-split_first_mut.input.now in
    let os = c.in-Some.senders.now in
    let is = c.in-Some-split_first_mut.inputs.now in
    let next = c.take_rest_of.new.core in
    IfOk-weaker c.take_rest.result (λ _. HasTaken next c.take_rest.new.core (all_left os is)) _
    (λ done taken. subst (HasTaken core c.take_rest.new.core)
    (sym (ap₂ all_left c.in-Some.ensures.cases.0 c.in-Some-split_first_mut.ensures.cases.0))
    (taken_then core next c.take_rest.new.core (left_on o i) (all_left os is) c.in_ok-take_rest_of.ensures.taken taken)) c.take_rest.ensures.taken
