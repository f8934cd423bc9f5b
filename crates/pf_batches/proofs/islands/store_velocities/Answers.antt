use Rattle.std.proofs.Common.{◌∙◌, ap, ap₂, arith, get_or, set, sym}
use Rattle.pf_bundles.specs.Unknowns.{Velocity}
use Rattle.pf_batches.specs.Unknowns.{moving_body}
use Rattle.pf_batches.proofs.Unknowns.{one_given}
use Rattle.pf_batches.proofs.islands.store_velocities.Goals as goal

pub loop-place-preserved : goal.loop-place-preserved
loop-place-preserved c =
    let k = c.loop-place.place in
    let own = c.index-velocities-place.result in
    let body = c.index-bodies-place.result in
    let read = ap₂ (λ velocity spin. let v : Velocity = record { velocity = velocity; spin = spin } in v)
    c.velocity-body-inside.ensures c.spin-body-inside.ensures ∙ c.index-velocities-place.is in
    let before = c.body.view_is ∙ ap (λ now. get_or now k body) c.loop-place.invariant in
    ap₂ (λ now x. set now k x) c.loop-place.invariant (ap₂ moving_body read before)
    ∙ sym (one_given moving_body c.args.velocities.now c.args.bodies.now k own body (omega (arith, c.requires, c.loop-place-test.true)))
