use Rattle.std.proofs.Common.{◌≡◌, ◌∙◌, ap, length, subst, sym}
use Rattle.std.proofs.lemmas.Bool.{eqb-true}
use Rattle.std.proofs.lemmas.List.FromFn.{length-map-range_with_len}
use Rattle.std.specs.Prelude.{All}
use Rattle.pf_manifold.specs.Touches.{IsTouchOf}
use Rattle.pf_cache.specs.Manifolds.{kept_touches}
use Rattle.pf_cache.specs.Points.{flagged_points}
use Rattle.pf_islands.specs.Rows.{is_simulated_at}
use Rattle.pf_islands.proofs.ActiveRows.{flagged_are_active, none_active}
use Rattle.pf_islands.proofs.Listed.{none_awake}
use Rattle.pf_islands.proofs.active.active_of.Goals as goal

pub returns-then-is_empty-clause-points : goal.returns-then-is_empty-clause-points
returns-then-is_empty-clause-points c =
    let bodies = c.args.bodies.now in
    let none : length c.args.numbers.items ≡ 0 =
    sym c.args.numbers.ok.0 ∙ eqb-true c.args.numbers.len 0 (sym c.is_empty.ensures ∙ c.if-is_empty.true) in
    c.new-points.ensures.items
    ∙ sym
    (none_active c.args.scene.now bodies (kept_touches c.args.manifolds.now)
    (none_awake bodies (sym (ap length c.requires.numbers) ∙ none)))

pub points_of-requires : goal.points_of-requires
points_of-requires c =
    let bodies = c.args.bodies.now in
    let flags = ap length (c.deref-2.ensures.value ∙ c.in_ok-simulated.ensures.value)
    ∙ length-map-range_with_len (is_simulated_at c.args.scene.now bodies) 0 (length bodies) in
    subst (λ n. All (IsTouchOf n) (kept_touches c.args.manifolds.now)) (sym flags) c.requires.touches

pub returns-clause-points : goal.returns-clause-points
returns-clause-points c =
    let touches = kept_touches c.args.manifolds.now in
    c.in_ok-points.ensures.points
    ∙ ap (λ flags. flagged_points flags touches) (c.deref-2.ensures.value ∙ c.in_ok-simulated.ensures.value)
    ∙ flagged_are_active c.args.scene.now c.args.bodies.now touches
