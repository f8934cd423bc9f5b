use Rattle.std.proofs.Common.{All, length, subst, sym}
use Rattle.std.proofs.lemmas.Result.{IfOk-weaker}
use Rattle.pf_broad.specs.Pairs.{all_bounds, pairs}
use Rattle.pf_cache.proofs.Unmoved.{kept_points}
use Rattle.pf_cache.specs.Manifolds.{kept_touches}
use Rattle.pf_manifold.specs.Touches.{IsTouchOf}
use Rattle.pf_step.proofs.Touching.{points_of_bodies}
use Rattle.pf_step.proofs.points.find_collisions.Goals as goal

pub returns-clause-bodies : goal.returns-clause-bodies
returns-clause-bodies g c =
    let s = c.args.scene.now in
    let bodies = c.args.bodies.now in
    let n = length bodies in
    IfOk-weaker c.update.result _ _
    (λ found is. subst (λ m. All (IsTouchOf n) (kept_touches m)) (sym is)
    (subst (All (IsTouchOf n)) (sym (kept_points s.fixtures bodies (pairs (all_bounds s.fixtures bodies))))
    (points_of_bodies s bodies c.requires.bodies)))
    c.update.ensures.manifolds
