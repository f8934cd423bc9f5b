use Rattle.std.proofs.Common.{◌∙◌, ap, sym, subst, arith}
use Rattle.std.proofs.lemmas.Grind.{common_steps}
use Rattle.pf_bundles.specs.Prepared.{constraint_in}
use Rattle.pf_batches.specs.Contact.{state_in}
use Rattle.pf_lanes.specs.Lanes.{number_in}
use Rattle.pf_batches.specs.Limits.{IsReady}
use Rattle.pf_batches.proofs.Steps.{normal_step}
use Rattle.pf_batches.proofs.round.after_normal_step.Goals as goal

pub returns-clause-value : goal.returns-clause-value
returns-clause-value c = λ k.
    let p = c.args.prepared.now in
    ap (state_in k p) c.with_normal.ensures
    ∙ normal_step (constraint_in k p.constraint) (state_in k p c.args.state.now) (state_in k p c.in_ok-after.after)
    (number_in k c.plus-normal.result) (number_in k c.in_ok-added.added)
    (grind (arith, common_steps, c.plus-normal.ensures.value k, c.in_ok-added.ensures.total k)) (c.in_ok-added.ensures.added k)
    (grind (arith, common_steps, c.in_ok-after.ensures.value k))

pub returns-clause-ready : goal.returns-clause-ready
returns-clause-ready c = λ k spins.
    let p = c.args.prepared.now in
    let ready = c.in_ok-after.ensures.ready k spins in
    subst (IsReady (constraint_in k p.constraint)) (sym (ap (state_in k p) c.with_normal.ensures))
    (record {
      small = ready.small;
      spins = record { first = ready.spins.first; second = ready.spins.second };
      first = ready.first;
      second = ready.second;
    })
