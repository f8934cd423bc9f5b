use Rattle.std.proofs.Common.{◌∙◌, ℕ, ap, sym}
use Rattle.std.proofs.lemmas.List.Folds.{list_all-map, list_all_at}
use Rattle.pf_manifold.specs.Touches.{Touch}
use Rattle.pf_islands.specs.Settled.{wakes_none}
use Rattle.pf_islands.proofs.active.all_wake_none.Goals as goal

pub returns-then-not-wakes_none : goal.returns-then-not-wakes_none
returns-then-not-wakes_none c =
    let q = wakes_none c.args.scene.now c.args.bodies.now in
    sym
    (list_all-map q (λ (m : ℕ × Touch). m.1) c.args.points.now
    ∙ list_all_at (λ (m : ℕ × Touch). q m.1) c.args.points.now c.loop-point.point-index c.point-item.result
    c.loop-point-test.true
    (ap (λ (m : ℕ × Touch). q m.1) (sym c.point-item.is) ∙ sym c.wakes_none.ensures ∙ c.if-not-wakes_none.true))
