use Rattle.std.proofs.Common.{◌≤◌, All, length, subst, sym, arith}
use Rattle.std.proofs.lemmas.Result.{IfOk-weaker}
use Rattle.pf_shapes.specs.declared.scene.TheConstants.{MAX_BODIES}
use Rattle.pf_manifold.specs.Touches.{IsTouchOf}
use Rattle.pf_manifold.specs.Key.{AreTouches}
use Rattle.pf_manifold.proofs.KeyOrder.{touches_in_order, touches_of_bodies}
use Rattle.pf_manifold.proofs.touch.collide_list.Goals as goal

pub returns-clause-order : goal.returns-clause-order
returns-clause-order c = λ up.
    let bodies = c.args.bodies.now in
    let fixtures = c.fixtures.result.now in
    let few : length bodies ≤ MAX_BODIES = omega (arith, c.requires.bodies, c.fixtures.ensures.scene.few) in
    IfOk-weaker c.collide_pairs.result _ _
    (λ found is. subst AreTouches (sym is)
    (touches_in_order fixtures bodies (length bodies) c.args.pairs.now few up c.requires.pairs))
    c.collide_pairs.ensures.found

pub returns-clause-bodies : goal.returns-clause-bodies
returns-clause-bodies c =
    let n = length c.args.bodies.now in
    IfOk-weaker c.collide_pairs.result _ _
    (λ found is. subst (All (IsTouchOf n)) (sym is)
    (touches_of_bodies c.fixtures.result.now c.args.bodies.now n c.args.pairs.now c.requires.pairs))
    c.collide_pairs.ensures.found
