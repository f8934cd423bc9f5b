use Rattle.std.proofs.Common.{sym, ap, ◌∙◌}
use Rattle.pf_shapes.specs.Bounds.{Bounds}
use Rattle.pf_cache.specs.Manifolds.{shape_of_body}
use Rattle.pf_cache.proofs.Bounded.{bounds_stay}
use Rattle.pf_cache.proofs.Unmoved.{Decides-placed}
use Rattle.pf_cache.proofs.placed_bodies.refresh_body.Goals as goal

pub returns-then-bounds-is_static-clause-shape : goal.returns-then-bounds-is_static-clause-shape
returns-then-bounds-is_static-clause-shape c =
    (Decides-placed c.args.shape.now (shape_of_body c.args.fixture.now c.args.body.now)).0
    (sym c.is_of-is_unmoved.ensures ∙ c.if-is_unmoved.true)

pub returns-then-bounds-is_static-clause-bounds : goal.returns-then-bounds-is_static-clause-bounds
returns-then-bounds-is_static-clause-bounds c =
    let stayed = (Decides-placed c.args.shape.now (shape_of_body c.args.fixture.now c.args.body.now)).0
    (sym c.is_of-is_unmoved.ensures ∙ c.if-is_unmoved.true) in
    bounds_stay c.args.shape.now c.args.bounds.now c.args.fixture.now c.args.body.now c.requires stayed
    c.bounds.inside.is_static c.is_static.result (ap (λ (b : Bounds). b.is_static) c.bounds.view_is) c.is_static.ensures
    c.if-bounds-is_static.true
