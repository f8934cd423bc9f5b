use Rattle.std.proofs.Common.{◌≤◌, List, All, length, map, subst, sym, ap, arith, ◌∙◌}
use Rattle.std.specs.List.{flat_map}
use Rattle.std.proofs.lemmas.Result.{IfOk-weaker}
use Rattle.pf_shapes.specs.declared.scene.TheConstants.{MAX_BODIES}
use Rattle.pf_manifold.specs.Touches.{IsTouchOf, Touch, touches_of}
use Rattle.pf_manifold.specs.Key.{AreTouches}
use Rattle.pf_manifold.specs.declared.parallel.TheConstants.{CHUNK}
use Rattle.pf_manifold.proofs.Chunks.{chunk_by_chunk}
use Rattle.pf_manifold.proofs.KeyOrder.{touches_in_order, touches_of_bodies}
use Rattle.pf_manifold.proofs.parallel.collide_all.Goals as goal

pub returns-clause-found : goal.returns-clause-found
returns-clause-found g c =
    let fixtures = c.fixtures-fixtures.result.now in
    IfOk-weaker c.joined.result _ _
    (λ all is. is
    ∙ ap (λ lists. flat_map (λ (points : List Touch). points) lists)
    (ap (map (λ points. points.items)) c.deref.ensures.value ∙ c.in_ok-chunks.ensures)
    ∙ chunk_by_chunk (touches_of fixtures c.args.bodies.now) CHUNK c.args.pairs.now (omega arith)
    ∙ ap (λ fs. flat_map (touches_of fs c.args.bodies.now) c.args.pairs.now) c.fixtures-fixtures.ensures.value)
    c.joined.ensures

pub returns-clause-order : goal.returns-clause-order
returns-clause-order g c = λ up.
    let bodies = c.args.bodies.now in
    let few : length bodies ≤ MAX_BODIES = omega (arith, c.requires.bodies, c.fixtures-fixtures.ensures.scene.few) in
    IfOk-weaker c.joined.result _ _
    (λ found is. subst AreTouches (sym is)
    (touches_in_order c.args.scene.now.fixtures bodies (length bodies) c.args.pairs.now few up c.requires.pairs))
    (returns-clause-found g c)

pub returns-clause-bodies : goal.returns-clause-bodies
returns-clause-bodies g c =
    let n = length c.args.bodies.now in
    IfOk-weaker c.joined.result _ _
    (λ found is. subst (All (IsTouchOf n)) (sym is)
    (touches_of_bodies c.args.scene.now.fixtures c.args.bodies.now n c.args.pairs.now c.requires.pairs))
    (returns-clause-found g c)
