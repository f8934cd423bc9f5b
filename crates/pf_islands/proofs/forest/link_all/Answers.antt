use Rattle.std.proofs.Common.{◌≡◌, ◌∙◌, ℕ, [], ◌∷◌, append-nil, ap, length, subst, sym}
use Rattle.std.proofs.lemmas.Bool.{eqb-true, not-false}
use Rattle.std.specs.Prelude.{All}
use Rattle.std.specs.Slice.Iter.{iter_rest}
use Rattle.std.specs.Iterator.Adapters.{rev_source}
use Rattle.pf_manifold.specs.Touches.{IsTouchOf, Touch}
use Rattle.pf_islands.specs.Group.{group}
use Rattle.pf_islands.specs.Settled.{touches_of}
use Rattle.pf_islands.proofs.Linked.{all_before, forest_passed, none_of_last, none_of_one, passed_more, point_more}
use Rattle.pf_islands.proofs.forest.link_all.Goals as goal
use Rattle.pf_islands.proofs.forest.link_all.Goals.{then-touch-first, else-touch-first}

pub loop-point-init : goal.loop-point-init
unfolding group
loop-point-init c =
    let source = ap rev_source c.into_iter-point-iterator.ensures.into_iter_gives ∙ c.rev-point-items.ensures.source in
    let rest = ap iter_rest source ∙ c.iter.ensures.rest in
    record {
      down = c.requires.down;
      within = subst (All (λ (m : ℕ × Touch). IsTouchOf (length c.args.scene.now.fixtures) m.1)) (sym rest) c.requires.touches;
      passed = (
        [],
        sym (append-nil _ ∙ ap touches_of rest),
        c.requires.single,
        none_of_one c.args.scene.now 0 [],
      );
    }

pub loop-point-preserved-then-is_other : goal.loop-point-preserved-then-is_other
loop-point-preserved-then-is_other c =
    let scene = c.args.scene.now in
    let before = c.loop-point.invariant.passed in
    let touch = c.in-Some.point.now.1 in
    record {
      down = c.link_touch.ensures.down;
      within = all_before (λ (m : ℕ × Touch). IsTouchOf (length c.args.scene.now.fixtures) m.1) _ _ _ c.in-Some.ensures.steps c.loop-point.invariant.within;
      passed = (
        touch ∷ before.0,
        passed_more (touches_of c.args.points.now) _ _ before.0 touch
            (point_more _ _ c.in-Some.point.now c.in-Some.ensures.steps) before.1,
        c.link_touch.ensures.roots before.0 before.2,
        none_of_last scene touch before.0 _ _
            (ap (λ (t : Touch). t.a) (sym c.touch.view_is)) (ap (λ (t : Touch). t.b) (sym c.touch.view_is)),
      );
    }

pub loop-point-preserved : goal.loop-point-preserved
loop-point-preserved c =
    let scene = c.args.scene.now in
    let before = c.loop-point.invariant.passed in
    let touch = c.in-Some.point.now.1 in
    let same : (touch.a ≡ c.loop-point.first) × (touch.b ≡ c.loop-point.second) =
    elim c.if-touch-first.branch [
      | then-touch-first w ↦
          absurd (w.if-touch-first.true (eqb-true _ _ (not-false _ (sym w.is_other-is ∙ c.if-is_other.false))))
      | else-touch-first w ↦ (
        ap (λ (t : Touch). t.a) (sym c.touch.view_is) ∙ w.if-touch-first.false,
        ap (λ (t : Touch). t.b) (sym c.touch.view_is)
            ∙ eqb-true _ _ (not-false _ (sym w.is_other-is ∙ c.if-is_other.false)),
      )
    ] in
    record {
      down = c.loop-point.invariant.down;
      within = all_before (λ (m : ℕ × Touch). IsTouchOf (length c.args.scene.now.fixtures) m.1) _ _ _ c.in-Some.ensures.steps c.loop-point.invariant.within;
      passed = (
        touch ∷ before.0,
        passed_more (touches_of c.args.points.now) _ _ before.0 touch
            (point_more _ _ c.in-Some.point.now c.in-Some.ensures.steps) before.1,
        forest_passed scene touch before.0 c.loop-point.parents _ _ same.0 same.1 before.3 before.2,
        none_of_last scene touch before.0 _ _ same.0 same.1,
      );
    }
