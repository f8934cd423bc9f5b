use Rattle.std.proofs.Common.{All, ap, sym, subst, ◌∙◌}
use Rattle.std.proofs.lemmas.List.{with_items_is}
use Rattle.pf_shapes.specs.Bounds.{IsOrdered}
use Rattle.pf_broad.specs.Pairs.{all_bounds}
use Rattle.pf_cache.specs.Manifolds.{placed_shapes}
use Rattle.pf_cache.proofs.Bounded.{have_bounds}
use Rattle.pf_cache.proofs.placed_bodies.PlacedBodies.update.Goals as goal

pub invariant_of-result : goal.invariant_of-result
invariant_of-result c =
    let bodies = c.args.bodies.now in
    let shapes = with_items_is c.self.inside.shapes c.refresh_bodies.new.shapes (c.refresh_bodies.auto.shapes ∙ c.deref_mut.ensures.len) in
    let bounds = with_items_is c.self.inside.bounds c.refresh_bodies.new.bounds (c.refresh_bodies.auto.bounds ∙ c.deref_mut-2.ensures.len) in
    have_bounds c.args.scene.now.fixtures bodies _ _ c.requires.bodies
    (shapes ∙ c.refresh_bodies.ensures.shapes ∙ ap (λ fs. placed_shapes fs bodies) c.fixtures-fixtures.ensures.value)
    (bounds ∙ c.refresh_bodies.ensures.bounds ∙ ap (λ fs. all_bounds fs bodies) c.fixtures-fixtures.ensures.value)
    (subst (All IsOrdered) (sym bounds) c.refresh_bodies.ensures.ordered)
