use Rattle.std.proofs.Common.{◌∙◌, ap, sym}
use Rattle.pf_manifold.specs.Touches.{Touch}
use Rattle.pf_islands.specs.Group.{group}
use Rattle.pf_islands.proofs.Linked.{forest_of_link, forest_unlinked}
use Rattle.pf_islands.proofs.forest.link_touch.Goals as goal

pub returns-then-connects-clause-roots : goal.returns-then-connects-clause-roots
returns-then-connects-clause-roots c =
    λ passed forest.
    let scene = c.args.scene.now in
    forest_of_link scene c.args.touch.now passed c.link.new.parents _ _
    (c.from.ensures ∙ ap (λ (t : Touch). t.a) c.touch.view_is) (c.from-then-connects.ensures ∙ ap (λ (t : Touch). t.b) c.touch.view_is)
    (sym c.connects.ensures ∙ c.if-connects.true) (c.link.ensures.roots (group scene passed) forest)

pub returns-else-connects-clause-roots : goal.returns-else-connects-clause-roots
returns-else-connects-clause-roots c =
    λ passed forest.
    forest_unlinked c.args.scene.now c.args.touch.now passed c.args.parents.now
    (sym c.connects.ensures ∙ c.if-connects.false) forest
