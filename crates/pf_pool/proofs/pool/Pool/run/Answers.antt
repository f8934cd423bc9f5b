use Rattle.std.proofs.Common.{◌≡◌, subst}
use Rattle.std.specs.Prelude.{OnOk}
use Rattle.pf_pool.proofs.Answered.{all_done, partly_done}
use Rattle.pf_pool.proofs.pool.Pool.run.Goals as goal

pub returns-in_err-done-clause-left : goal.returns-in_err-done-clause-left
returns-in_err-done-clause-left g c =
    let dealt = c.in_ok-collector.ensures.dealt in
    partly_done g.T.Task.is_done dealt.0 c.have_done-done.result.0 c.args.parts.now.len c.args.parts.now.items c.have_done-done.new.slots
    c.deref_mut.result.now dealt.2 c.deref_mut.ensures.value c.have_done-done.ensures.count c.args.parts.now.ok.0
    (c.have_done-done.ensures.done dealt.0 dealt.1) c.have_done-done.ensures.all c.have_done-done.ensures.kept

pub returns-clause-left : goal.returns-clause-left
returns-clause-left g c =
    let dealt = c.in_ok-collector.ensures.dealt in
    partly_done g.T.Task.is_done dealt.0 c.have_done-done.result.0 c.args.parts.now.len c.args.parts.now.items c.have_done-done.new.slots
    c.deref_mut.result.now dealt.2 c.deref_mut.ensures.value c.have_done-done.ensures.count c.args.parts.now.ok.0
    (c.have_done-done.ensures.done dealt.0 dealt.1) c.have_done-done.ensures.all c.have_done-done.ensures.kept

pub returns-clause-done : goal.returns-clause-done
returns-clause-done g c =
    let dealt = c.in_ok-collector.ensures.dealt in
    all_done g.T.Task.is_done dealt.0 c.have_done-done.result.0 c.args.parts.now.len c.args.parts.now.items c.have_done-done.new.slots
    c.deref_mut.result.now dealt.2 c.deref_mut.ensures.value c.have_done-done.ensures.count c.args.parts.now.ok.0
    (c.have_done-done.ensures.done dealt.0 dealt.1) c.have_done-done.ensures.all
    (subst (λ r. OnOk r (c.have_done-done.result.0 ≡ 0)) c.in_ok-done.was c.have_done-done.ensures.asked)
