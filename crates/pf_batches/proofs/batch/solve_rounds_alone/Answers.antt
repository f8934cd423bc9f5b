use Rattle.std.proofs.Common.{◌∙◌, ap, get_or, set}
use Rattle.std.proofs.lemmas.List.Edits.{map_over_more}
use Rattle.pf_solver.specs.Alone.{island_after_rounds}
use Rattle.pf_batches.proofs.batch.solve_rounds_alone.Goals as goal

pub loop-island-preserved : goal.loop-island-preserved
loop-island-preserved c =
    let now = c.loop-island.islands in
    let i = c.loop-island.island-index in
    ap (set now i) c.solve_rounds.ensures
    ∙ map_over_more island_after_rounds c.args.islands.now now i (get_or now i c.island-item.result)
    c.loop-island-test.true c.loop-island.invariant (ap (get_or now i) c.island-item.is)
