use Rattle.std.proofs.Common.{◌++◌, map, ap, sym, ◌∙◌}
use Rattle.pf_shapes.specs.Pair.{Pair}
use Rattle.pf_manifold.specs.Manifold.{points_of}
use Rattle.pf_manifold.specs.Touches.{touch_of, placed_shape_at}
use Rattle.pf_manifold.proofs.Pairs.{touches_more}
use Rattle.pf_manifold.proofs.Apart.{pair_apart}
use Rattle.pf_manifold.proofs.touch.collide_pairs.Goals as goal

pub loop-pair-preserved : goal.loop-pair-preserved
loop-pair-preserved c =
    let shape_at = placed_shape_at c.args.fixtures.now c.args.bodies.now in
    c.in_ok-push_points.ensures.added
    ∙ ap (λ front. front ++ map (touch_of c.pair-item.result) (points_of c.collide.result)) c.loop-pair.invariant
    ∙ sym (touches_more c.args.fixtures.now c.args.bodies.now c.args.pairs.now c.loop-pair.pair-index c.pair-item.result
    c.placed_shape-a.result c.placed_shape-b.result (points_of c.collide.result) c.loop-pair-test.true c.pair-item.is
    (ap (λ (p : Pair). shape_at p.a) (sym c.pair.view_is) ∙ c.placed_shape-a.ensures)
    (ap (λ (p : Pair). shape_at p.b) (sym c.pair.view_is) ∙ c.placed_shape-b.ensures)
    c.collide.ensures)

pub returns-in_err-push_points-clause-no_memory : goal.returns-in_err-push_points-clause-no_memory
returns-in_err-push_points-clause-no_memory c = λ none.
    let shape_at = placed_shape_at c.args.fixtures.now c.args.bodies.now in
    let failed = c.in_err-push_points.ensures.no_memory
    (pair_apart c.args.fixtures.now c.args.bodies.now c.args.pairs.now c.loop-pair.pair-index c.pair-item.result
    c.placed_shape-a.result c.placed_shape-b.result (points_of c.collide.result) c.loop-pair-test.true c.pair-item.is
    (ap (λ (p : Pair). shape_at p.a) (sym c.pair.view_is) ∙ c.placed_shape-a.ensures)
    (ap (λ (p : Pair). shape_at p.b) (sym c.pair.view_is) ∙ c.placed_shape-b.ensures)
    c.collide.ensures none) in
    absurd (cc)
