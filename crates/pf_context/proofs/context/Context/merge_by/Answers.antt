use Rattle.std.proofs.Common.{◌≡◌, rules}
use Rattle.std.specs.Prelude.{IsSome, Ok}
use Rattle.pf_context.specs.Context.{peer_at, with_peer}
use Rattle.pf_context.specs.Errors.{peer_error, returned}
use Rattle.pf_context.specs.Merging.{MergesBy}
use Rattle.pf_context.proofs.Called.{called}
use Rattle.pf_context.proofs.context.Context.merge_by.Goals as goal

pub returns-in_err-merge_two : goal.returns-in_err-merge_two
returns-in_err-merge_two c =
    let some : IsSome (peer_at c.args.self.now c.args.peer) = search rules in
    let same : c.from_residual.result ≡ returned peer_error c.merge_two.result = search rules in
    record {
      bad_key = search rules;
      two = λ others apart named. called peer_at with_peer peer_error _ _ c.args.peer _ (MergesBy c.args.rule others.peer) c.merge_two.result some (λ before is. c.merge_two.ensures before others is named) same;
      itself = search rules;
      no_other = search rules;
    }

pub returns : goal.returns
returns c =
    let some : IsSome (peer_at c.args.self.now c.args.peer) = search rules in
    let same : Ok c.in_ok-merge_two.field-0 ≡ returned peer_error c.merge_two.result = search rules in
    record {
      bad_key = search rules;
      two = λ others apart named. called peer_at with_peer peer_error _ _ c.args.peer _ (MergesBy c.args.rule others.peer) c.merge_two.result some (λ before is. c.merge_two.ensures before others is named) same;
      itself = search rules;
      no_other = search rules;
    }
