use Rattle.std.proofs.Common.{◌∙◌, ◌∷◌, [], ap}
use Rattle.pf_manifold.specs.Touches.{touch_of}
use Rattle.pf_cache.proofs.PairPoints.{one_point, two_points}
use Rattle.pf_cache.proofs.stale.manifold_of.Goals as goal

pub returns-in-len1 : goal.returns-in-len1
returns-in-len1 c =
    ap (λ t. touch_of c.args.pair.now t.point ∷ []) c.touch.view_is
    ∙ one_point c.args.shapes.now c.args.pair.now c.args.touches.now c.touch-item.result c.requires.touches c.in-len1.len_below
    c.in-len1.len_at_least c.touch-item.is

pub returns-in-len2 : goal.returns-in-len2
returns-in-len2 c =
    (λ i. touch_of c.args.pair.now (c.touch-in-len2.view_is i).point ∷ touch_of c.args.pair.now (c.last.view_is i).point ∷ [])
    ∙ two_points c.args.shapes.now c.args.pair.now c.args.touches.now c.touch-item-then-touches-lt3.result c.last-item.result c.requires.touches
    c.in-len2.len_below c.in-len2.len_at_least c.touch-item-then-touches-lt3.is c.last-item.is
