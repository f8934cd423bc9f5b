use Rattle.std.proofs.Common.{◌∙◌, ap, rules, arith}
use Rattle.pf_bundles.specs.Prepared.{constraint_in}
use Rattle.pf_solver.specs.Impulse.{after_impulse}
use Rattle.pf_batches.specs.Contact.{state_in}
use Rattle.pf_batches.proofs.round.after_great_push.Goals as goal

pub returns-then-is_ready-clause-value : goal.returns-then-is_ready-clause-value
returns-then-is_ready-clause-value c = λ k.
    let p = c.args.prepared.now in
    c.in_ok-after.ensures.value k
    ∙ ap (λ v. after_impulse (constraint_in k p.constraint) v (state_in k p c.args.state)) (c.impulse_along-impulse.ensures.value k)

pub returns-then-is_ready-clause-ready : goal.returns-then-is_ready-clause-ready
returns-then-is_ready-clause-ready c = c.is_ready.ensures.ready (grind (arith, rules, c.if-is_ready.true))
