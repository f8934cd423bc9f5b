use Rattle.std.proofs.Common.{◌∙◌, ap, get_or, set, arith, subst, sym}
use Rattle.std.proofs.lemmas.List.Edits.{map_over_more}
use Rattle.pf_solver.specs.Alone.{prepared_island}
use Rattle.pf_batches.specs.Islands.{AreBatches}
use Rattle.pf_batches.proofs.Parts.{batches_prepared, whole_map}
use Rattle.pf_batches.proofs.batch.prepare_all.Goals as goal

pub loop-island-preserved : goal.loop-island-preserved
loop-island-preserved c =
    let now = c.loop-island.islands in
    let i = c.loop-island.island-index in
    ap (set now i) c.prepare_island.ensures.value
    ∙ map_over_more (prepared_island c.args.scene.now) c.args.islands.now now i (get_or now i c.island-item.result)
    c.loop-island-test.true c.loop-island.invariant (ap (get_or now i) c.island-item.is)

pub returns-clause-rows : goal.returns-clause-rows
returns-clause-rows c =
    let done = whole_map (prepared_island c.args.scene.now) c.args.islands.now c.loop-island.islands c.loop-island.island-index
    (omega arith) (omega arith) c.loop-island.invariant in
    subst AreBatches (sym done) (batches_prepared c.args.scene.now c.args.islands.now c.requires)
