use Rattle.std.proofs.Common.{◌<◌, ◌∙◌, ap, ap₂, arith, length}
use Rattle.std.specs.Prelude.{get_or}
use Rattle.pf_shapes.specs.Pair.{Pair}
use Rattle.pf_manifold.specs.Collide.{collide}
use Rattle.pf_cache.proofs.Unmoved.{points_here}
use Rattle.pf_cache.proofs.kept_shape.manifold_of_pair.Goals as goal

pub returns : goal.returns
returns c =
    let shapes = c.args.shapes.now in
    let p = c.args.pair.now in
    let second : p.b < length shapes = c.requires.pair.1 in
    let first : p.a < length shapes = omega (arith, c.requires.pair.0, second) in
    let a_is = c.index-shapes-pair.is ∙ ap (λ (q : Pair). get_or shapes q.a c.index-shapes-pair.result) c.pair.view_is in
    let b_is = c.index-shapes-pair-2.is ∙ ap (λ (q : Pair). get_or shapes q.b c.index-shapes-pair-2.result) c.pair.view_is in
    points_here shapes p c.index-shapes-pair.result c.index-shapes-pair-2.result _ first second a_is b_is
    (c.collide.ensures ∙ ap₂ collide c.placed.ensures c.placed-2.ensures)
