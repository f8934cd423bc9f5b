use Rattle.std.proofs.Common.{◌∙◌, ap, arith}
use Rattle.std.proofs.lemmas.Grind.{common_steps}
use Rattle.pf_bundles.specs.Prepared.{constraint_in}
use Rattle.pf_batches.specs.Contact.{state_in}
use Rattle.pf_lanes.specs.Lanes.{number_in}
use Rattle.pf_batches.proofs.Steps.{friction_step}
use Rattle.pf_batches.proofs.round.after_friction_step.Goals as goal

pub returns-clause-value : goal.returns-clause-value
returns-clause-value c = λ k.
    let p = c.args.prepared.now in
    ap (state_in k p) c.with_tangent.ensures
    ∙ friction_step (constraint_in k p.constraint) (state_in k p c.args.state.now) (state_in k p c.in_ok-after.after)
    (number_in k c.plus-tangent.result) (number_in k c.in_ok-added.added)
    (grind (arith, common_steps, c.plus-tangent.ensures.value k, c.in_ok-added.ensures.total k)) (c.in_ok-added.ensures.added k)
    (grind (arith, common_steps, c.in_ok-after.ensures.value k))
