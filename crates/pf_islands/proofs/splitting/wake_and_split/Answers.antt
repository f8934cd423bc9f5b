use Rattle.std.proofs.Common.{◌≡◌, ◌∙◌, ap, length, sym}
use Rattle.std.proofs.lemmas.Result.{IfOk-weaker}
use Rattle.pf_manifold.specs.Touches.{IsTouchOf}
use Rattle.pf_cache.specs.Manifolds.{kept_touches}
use Rattle.pf_islands.specs.Lone.{lone_numbers, made_islands}
use Rattle.pf_islands.specs.Splitting.{group_islands, point_islands, woken_islands}
use Rattle.pf_islands.proofs.ActiveRows.{of_active}
use Rattle.pf_islands.proofs.SettledGroups.{same_islands, settled_from, woken_same}
use Rattle.pf_islands.proofs.splitting.wake_and_split.Goals as goal

pub all_wake_none-requires-clause-touches : goal.all_wake_none-requires-clause-touches
all_wake_none-requires-clause-touches c =
    of_active c.args.scene.now c.args.bodies.now (kept_touches c.args.manifolds.now) c.deref.result.now
    (IsTouchOf (length c.args.bodies.now)) (c.deref.ensures.value ∙ c.in_ok-active.ensures.points) c.requires.touches

pub split_settled-requires-clause-settled : goal.split_settled-requires-clause-settled
split_settled-requires-clause-settled c =
    let touches = kept_touches c.args.manifolds.now in
    record {
      touches = touches;
      of_bodies = c.requires.touches;
      as_many = c.requires.contacts;
      settled = settled_from c.args.scene.now c.args.bodies.now touches c.deref.result.now
          (c.deref.ensures.value ∙ c.in_ok-active.ensures.points) (sym c.all_wake_none.ensures ∙ c.if-all_wake_none.true);
      active = c.in_ok-active.ensures.points;
    }

pub returns-then-all_wake_none-clause-parts : goal.returns-then-all_wake_none-clause-parts
returns-then-all_wake_none-clause-parts c =
    let s = c.args.scene.now in
    let bodies = c.args.bodies.now in
    let touches = kept_touches c.args.manifolds.now in
    let contacts = c.args.contacts.now in
    let points = c.in_ok-active.active.points.items in
    let settled = settled_from s bodies touches c.deref.result.now
    (c.deref.ensures.value ∙ c.in_ok-active.ensures.points) (sym c.all_wake_none.ensures ∙ c.if-all_wake_none.true) in
    let same : point_islands s bodies points contacts ≡ woken_islands s bodies touches contacts =
    same_islands s bodies touches contacts c.requires.bodies settled points c.in_ok-active.ensures.points
    ∙ ap (λ bs. group_islands s bs touches contacts) (sym (woken_same s bodies touches c.requires.bodies settled)) in
    IfOk-weaker c.split_settled.result _ _
    (λ found is. record {
      made = is.made ∙ ap (made_islands c.args.lone) same;
      listed = is.listed ∙ ap (lone_numbers c.args.lone) same;
      fit = is.fit;
      order = is.order;
      there = is.there;
    })
    c.split_settled.ensures.parts
