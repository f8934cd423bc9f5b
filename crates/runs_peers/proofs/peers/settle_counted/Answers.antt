use Rattle.std.proofs.Common.{◌≡◌, ◌∙◌, Some, ap, sym}
use Rattle.pf_cache.specs.Meter.{saturating_sum}
use Rattle.runs_peers.specs.Failure.{failure_at}
use Rattle.runs_peers.proofs.Counted.{all_counted, calls_before, failed_call}
use Rattle.runs_peers.proofs.peers.settle_counted.Goals as goal

pub returns-clause-counted : goal.returns-clause-counted
returns-clause-counted g c =
    all_counted _ c.args.peer.now
    (λ before islands error after. (after.calls ≡ saturating_sum before.calls 1) × (failure_at before.failure after.calls ≡ Some error))
    c.settle_with.new.self (λ crew. crew.calls) (λ before after islands counted. counted.0) _ _ c.settle_with.result
    c.settle_with.ensures.crew

pub returns-clause-failed : goal.returns-clause-failed
returns-clause-failed g c error is =
    let failing = failed_call c.args.peer.now c.settle_with.new.self c.args.crew.now c.settle_with.new.crew
    (λ before islands error after. (after.calls ≡ saturating_sum before.calls 1) × (failure_at before.failure after.calls ≡ Some error))
    c.settle_with.result c.settle_with.ensures.crew (λ crew. crew.failure) (λ before after islands counted. counted.1)
    error is in
    ap (λ failure. failure_at failure c.settle_with.new.crew.calls) (sym failing.1) ∙ failing.2.1.1

pub returns-clause-out_of_memory : goal.returns-clause-out_of_memory
returns-clause-out_of_memory g c is =
    calls_before c.args.peer.now c.settle_with.new.self c.args.crew.now c.settle_with.new.crew
    (λ before islands error after. (after.calls ≡ saturating_sum before.calls 1) × (failure_at before.failure after.calls ≡ Some error))
    c.settle_with.result c.settle_with.ensures.crew (λ crew. crew.calls) (λ before after islands counted. counted.0) is
