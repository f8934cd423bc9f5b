use Rattle.std.proofs.Common.{◌∙◌, ap, get_or, set}
use Rattle.std.proofs.lemmas.List.Edits.{map_over_more}
use Rattle.pf_solver.specs.Alone.{island_at_end}
use Rattle.pf_batches.proofs.batch.finish_all.Goals as goal

pub loop-island-preserved : goal.loop-island-preserved
loop-island-preserved c =
    let now = c.loop-island.islands in
    let i = c.loop-island.island-index in
    ap (set now i) c.finish_island.ensures
    ∙ map_over_more island_at_end c.args.islands.now now i (get_or now i c.island-item.result)
    c.loop-island-test.true c.loop-island.invariant (ap (get_or now i) c.island-item.is)
