use Rattle.std.proofs.Common.{◌∙◌, ap, get_or, set}
use Rattle.std.proofs.lemmas.List.Edits.{map_over_more}
use Rattle.pf_islands.specs.Sleep.{at_sleep}
use Rattle.pf_islands.proofs.sleep.fall_asleep_all.Goals as goal

pub loop-body-preserved : goal.loop-body-preserved
loop-body-preserved c =
    let now = c.loop-body.bodies in
    let i = c.loop-body.body-index in
    ap (set now i) c.fall_asleep.ensures
    ∙ map_over_more at_sleep c.args.bodies.now now i (get_or now i c.body-item.result) c.loop-body-test.true
    c.loop-body.invariant (ap (get_or now i) c.body-item.is)
