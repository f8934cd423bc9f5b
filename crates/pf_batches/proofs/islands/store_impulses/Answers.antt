use Rattle.std.proofs.Common.{◌∙◌, ap, ap₂, arith, get_or, set, sym}
use Rattle.pf_batches.specs.Unknowns.{loaded_row}
use Rattle.pf_batches.proofs.Unknowns.{one_given}
use Rattle.pf_batches.proofs.islands.store_impulses.Goals as goal

pub loop-place-preserved : goal.loop-place-preserved
loop-place-preserved c =
    let k = c.loop-place.place in
    let own = c.index-impulses-place.result in
    let row = c.index-rows-place.result in
    let before = ap (λ now. get_or now k row) c.loop-place.invariant in
    ap₂ (λ now x. set now k x) c.loop-place.invariant
    (c.set_impulses.ensures ∙ ap₂ loaded_row (c.impulses.ensures ∙ c.index-impulses-place.is) before)
    ∙ sym (one_given loaded_row c.args.impulses.now c.args.rows.now k own row (omega (arith, c.requires, c.loop-place-test.true)))
