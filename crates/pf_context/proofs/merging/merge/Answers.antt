use Rattle.pf_context.proofs.merging.merge.Goals as goal

pub returns-in-SameHorizon : goal.returns-in-SameHorizon
returns-in-SameHorizon c =
    let shown = c.sealed.ensures in
    rw c.in-SameHorizon.is (rw (shown.0, shown.1, shown.2) at c.merge_sealed.ensures)

pub returns-in-AnyHorizon : goal.returns-in-AnyHorizon
returns-in-AnyHorizon c = rw c.in-AnyHorizon.is (rw c.commands.ensures.value at c.merge.ensures)
