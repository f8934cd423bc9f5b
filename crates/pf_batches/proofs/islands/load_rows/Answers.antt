use Rattle.std.proofs.Common.{rules, ◌∙◌, ◌++◌, ap, subst, take}
use Rattle.pf_islands.specs.Split.{Island}
use Rattle.pf_batches.specs.Islands.{AreHeldBy, batch_of}
use Rattle.pf_batches.proofs.SideBySide.{held_with_next}
use Rattle.pf_batches.proofs.islands.load_rows.Goals as goal

pub loop-island-preserved : goal.loop-island-preserved
loop-island-preserved c =
    let k = c.loop-island.island-index in
    let front = (batch_of (take k c.args.islands.now)).rows in
    let rows = c.as_slice.ensures.value ∙ ap (λ (i : Island). i.rows) (c.island.view_is ∙ c.island-item.is) in
    held_with_next c.args.islands.now k c.island-item.result c.add_rows.new.lanes.items c.loop-island-test.true
    (subst (λ some. AreHeldBy c.add_rows.new.lanes.items (front ++ some)) rows
    (c.in_ok-add_rows.ensures (search rules) front c.loop-island.invariant))
