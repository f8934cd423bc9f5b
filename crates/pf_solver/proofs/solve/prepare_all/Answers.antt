use Rattle.std.proofs.Common.{◌∙◌, ap, get_or, set}
use Rattle.std.proofs.lemmas.List.Edits.{map_over_more}
use Rattle.pf_solver.specs.Solve.{prepared_row}
use Rattle.pf_solver.proofs.solve.prepare_all.Goals as goal

pub loop-row-preserved : goal.loop-row-preserved
loop-row-preserved c =
    let now = c.loop-row.rows in
    let i = c.loop-row.row-index in
    ap (set now i) c.prepare.ensures
    ∙ map_over_more (prepared_row c.args.scene.now c.args.bodies.now) c.args.rows.now now i (get_or now i c.row-item.result)
    c.loop-row-test.true c.loop-row.invariant (ap (get_or now i) c.row-item.is)
