use Rattle.std.proofs.Common.{ap, ◌∙◌}
use Rattle.pf_cache.specs.Manifolds.{placed_shapes}
use Rattle.pf_cache.proofs.Bounded.{have_bounds}
use Rattle.pf_cache.proofs.placed_bodies.PlacedBodies.of.Goals as goal

pub invariant_of-result : goal.invariant_of-result
invariant_of-result c =
    have_bounds c.args.scene.now.fixtures c.args.bodies.now c.in_ok-shapes.shapes.items c.in_ok-bounds.bounds.items c.requires
    (c.in_ok-shapes.ensures ∙ ap (λ fs. placed_shapes fs c.args.bodies.now) c.fixtures.ensures.value)
    c.in_ok-bounds.ensures.value c.in_ok-bounds.ensures.ordered
