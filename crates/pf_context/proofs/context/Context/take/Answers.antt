use Rattle.std.proofs.Common.{◌≡◌, rules, Some}
use Rattle.std.specs.Prelude.{Ok}
use Rattle.pf_commands.specs.Frame.{decode}
use Rattle.pf_rollback.specs.Calls.{TakesFrame}
use Rattle.pf_context.specs.Context.{peer_at, with_peer}
use Rattle.pf_context.specs.Errors.{peer_error, returned}
use Rattle.pf_context.proofs.Called.{made}
use Rattle.pf_context.proofs.context.Context.take.Goals as goal

pub returns-in_err-take-clause-call : goal.returns-in_err-take-clause-call
returns-in_err-take-clause-call c =
    let named : peer_at c.args.self.now c.args.peer ≡ Some c.in-Some.core.now = search rules in
    let same : c.from_residual.result ≡ returned peer_error c.take.result = search rules in
    made peer_at with_peer peer_error _ _ c.args.peer _ (TakesFrame (decode c.args.frame.now)) c.in-Some.core.now c.take.new.self c.take.result named c.take.ensures (search rules) same

pub returns-clause-call : goal.returns-clause-call
returns-clause-call c =
    let named : peer_at c.args.self.now c.args.peer ≡ Some c.in-Some.core.now = search rules in
    let same : Ok c.in_ok-take.field-0 ≡ returned peer_error c.take.result = search rules in
    made peer_at with_peer peer_error _ _ c.args.peer _ (TakesFrame (decode c.args.frame.now)) c.in-Some.core.now c.take.new.self c.take.result named c.take.ensures (search rules) same
