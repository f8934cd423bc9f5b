use Rattle.std.proofs.Common.{sym, ap, ◌∙◌}
use Rattle.pf_broad.specs.Grid.{members, unless_empty, wide}
use Rattle.pf_broad.proofs.Zipped.{bounds_of_no_bodies}
use Rattle.pf_broad.proofs.grid.Grid.of.Goals as goal

pub returns-then-is_empty-clause-cells : goal.returns-then-is_empty-clause-cells
returns-then-is_empty-clause-cells c =
    let none = bounds_of_no_bodies c.args.scene.now.fixtures c.args.bodies.now (sym c.is_empty.ensures ∙ c.if-is_empty.true) in
    λ q. c.empty.ensures.cells q ∙ ap (λ bs. unless_empty (members bs q)) (sym none)

pub returns-then-is_empty-clause-wide : goal.returns-then-is_empty-clause-wide
returns-then-is_empty-clause-wide c =
    let none = bounds_of_no_bodies c.args.scene.now.fixtures c.args.bodies.now (sym c.is_empty.ensures ∙ c.if-is_empty.true) in
    c.empty.ensures.wide ∙ ap wide (sym none)
