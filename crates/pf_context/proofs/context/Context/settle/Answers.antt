use Rattle.std.proofs.Common.{◌≡◌, rules, Some}
use Rattle.std.specs.Prelude.{Ok}
use Rattle.pf_rollback.specs.Settling.{IsSettle}
use Rattle.pf_context.specs.Context.{peer_at, with_peer}
use Rattle.pf_context.specs.Errors.{memory_error, returned}
use Rattle.pf_context.proofs.Called.{made}
use Rattle.pf_context.proofs.context.Context.settle.Goals as goal

pub returns-in_err-settle_alone-clause-call : goal.returns-in_err-settle_alone-clause-call
returns-in_err-settle_alone-clause-call c =
    let named : peer_at c.args.self.now c.args.peer ≡ Some c.in-Some.core.now = search rules in
    let same : c.from_residual.result ≡ returned memory_error c.settle_alone.result = search rules in
    made peer_at with_peer memory_error _ _ c.args.peer _ IsSettle c.in-Some.core.now c.settle_alone.new.self c.settle_alone.result named c.settle_alone.ensures (search rules) same

pub returns-clause-call : goal.returns-clause-call
returns-clause-call c =
    let named : peer_at c.args.self.now c.args.peer ≡ Some c.in-Some.core.now = search rules in
    let same : Ok c.in_ok-settle_alone.field-0 ≡ returned memory_error c.settle_alone.result = search rules in
    made peer_at with_peer memory_error _ _ c.args.peer _ IsSettle c.in-Some.core.now c.settle_alone.new.self c.settle_alone.result named c.settle_alone.ensures (search rules) same
