use Rattle.std.proofs.Common.{◌+◌, ◌++◌, subst, sym, take}
use Rattle.pf_batches.specs.Islands.{AreHeldBy}
use Rattle.pf_batches.proofs.SideBySide.{held_pushed}
use Rattle.pf_batches.proofs.islands.add_rows.Goals as goal

pub loop-row-preserved : goal.loop-row-preserved
loop-row-preserved c = λ front held.
    let i = c.loop-row.row-index in
    subst (λ lanes. AreHeldBy lanes (front ++ take (i + 1) c.args.rows.now)) (sym c.in_ok-push-in-Some.ensures.items)
    (held_pushed c.loop-row.lanes.items front c.args.rows.now i c.in-Some.lane c.row-item.result c.loop-row-test.true
    c.row-item.is (c.loop-row.invariant front held) c.in-Some.ensures.held)
