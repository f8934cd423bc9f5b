use Rattle.std.proofs.Common.{◌∙◌, ap, get_or, set}
use Rattle.std.proofs.lemmas.List.Edits.{map_over_more}
use Rattle.std.specs.Prelude.{if◌then◌else◌}
use Rattle.pf_shapes.specs.Body.{BodyState}
use Rattle.pf_solver.specs.Bodies.{after_motion, after_timer}
use Rattle.pf_solver.proofs.solve.move_awake.Goals as goal

pub loop-body-preserved : goal.loop-body-preserved
loop-body-preserved c =
    let now = c.loop-body.bodies in
    let i = c.loop-body.body-index in
    ap (set now i) c.move_if_awake.ensures
    ∙ map_over_more (λ (b : BodyState). if b.awake then after_timer (after_motion b) else b) c.args.bodies.now now i
    (get_or now i c.body-item.result) c.loop-body-test.true c.loop-body.invariant (ap (get_or now i) c.body-item.is)
