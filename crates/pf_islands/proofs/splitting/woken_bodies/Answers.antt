use Rattle.std.proofs.Common.{rules, ◌≡◌, ◌∙◌, ap, ap₂, length, subst, sym, true}
use Rattle.std.proofs.lemmas.List.{with_items_is}
use Rattle.std.specs.List.{range_with_len}
use Rattle.std.specs.Prelude.{All}
use Rattle.pf_manifold.specs.Touches.{IsTouchOf}
use Rattle.pf_cache.specs.Manifolds.{kept_touches}
use Rattle.pf_islands.specs.Group.{groups}
use Rattle.pf_islands.specs.Settled.{touches_of}
use Rattle.pf_islands.specs.Sleep.{woken_bodies}
use Rattle.pf_islands.proofs.ActiveRows.{all_flagged, of_points}
use Rattle.pf_islands.proofs.SettledGroups.{all_listed, none_woken, woken_long}
use Rattle.pf_islands.proofs.Starting.{groups_long}
use Rattle.pf_islands.proofs.splitting.woken_bodies.Goals.{After-deref-3}
use Rattle.pf_islands.proofs.splitting.woken_bodies.Goals as goal

pub points_of-requires : goal.points_of-requires
points_of-requires c =
    subst (λ n. All (IsTouchOf n) (kept_touches c.args.manifolds.now))
    (sym (ap length c.deref.ensures.value ∙ c.in_ok-marks.ensures.as_many)) c.requires.touches

-- all contact points
all_points : (c : After-deref-3) → touches_of c.deref-2.result.now ≡ kept_touches c.args.manifolds.now
all_points c =
    let touches = kept_touches c.args.manifolds.now in
    let flags = c.deref.result.now in
    all_flagged flags c.deref-2.result.now touches
    (subst (All (λ e. e ≡ true)) (sym c.deref.ensures.value) c.in_ok-marks.ensures.marks)
    (subst (λ n. All (IsTouchOf n) touches) (sym (ap length c.deref.ensures.value ∙ c.in_ok-marks.ensures.as_many)) c.requires.touches)
    (c.deref-2.ensures.value ∙ c.in_ok-points.ensures.points)

pub new-requires-clause-touches : goal.new-requires-clause-touches
new-requires-clause-touches c =
    let all = all_points (goal.at.new-requires-clause-touches c).After-deref-3 in
    of_points (IsTouchOf (length c.args.scene.now.fixtures)) c.deref-2.result.now
    (subst (All (IsTouchOf (length c.args.scene.now.fixtures))) (sym all)
    (subst (λ n. All (IsTouchOf n) (kept_touches c.args.manifolds.now)) c.requires.bodies c.requires.touches))

pub new-requires-clause-numbers : goal.new-requires-clause-numbers
new-requires-clause-numbers c =
    all_listed c.args.scene.now _ c.deref-3.result.now
    (c.deref-3.ensures.value ∙ c.in_ok-numbers.ensures.value ∙ ap (range_with_len 0) c.requires.bodies)

pub wake-requires-clause-marks : goal.wake-requires-clause-marks
wake-requires-clause-marks c =
    ap length c.deref_mut.ensures.value ∙ c.in_ok-marks.ensures.as_many ∙ c.requires.bodies
    ∙ sym (ap length c.in_ok-groups.ensures.value ∙ groups_long c.args.scene.now _)

pub wake-requires-clause-bodies : goal.wake-requires-clause-bodies
wake-requires-clause-bodies c =
    let same : c.deref_mut-2.result.now ≡ c.args.bodies.now = search rules in
    ap length same ∙ c.requires.bodies
    ∙ sym (ap length c.in_ok-groups.ensures.value ∙ groups_long c.args.scene.now _)

pub returns-clause-bodies : goal.returns-clause-bodies
returns-clause-bodies c =
    let s = c.args.scene.now in
    let all : c.in_ok-groups.groups ≡ groups s (kept_touches c.args.manifolds.now) =
    c.in_ok-groups.ensures.value ∙ ap (groups s) (all_points (goal.at.returns-clause-bodies c).After-deref-3) in
    let same : c.deref_mut-2.result.now ≡ c.args.bodies.now = search rules in
    with_items_is c.extend_from_slice.new.self c.wake.new.bodies (c.wake.auto.bodies ∙ c.deref_mut-2.ensures.len)
    ∙ c.wake.ensures.bodies ∙ ap₂ woken_bodies all same

pub returns-clause-as_many : goal.returns-clause-as_many
returns-clause-as_many c =
    let s = c.args.scene.now in
    ap length (returns-clause-bodies c) ∙ woken_long s c.args.bodies.now (kept_touches c.args.manifolds.now) c.requires.bodies

pub returns-clause-none : goal.returns-clause-none
returns-clause-none c nothing =
    let s = c.args.scene.now in
    returns-clause-bodies c ∙ none_woken s c.args.bodies.now (kept_touches c.args.manifolds.now) c.requires.bodies nothing
