use Rattle.std.proofs.Common.{◌≡◌, ◌∙◌, ◌<◌, ap, length, subst, sym}
use Rattle.std.specs.Prelude.{All}
use Rattle.std.proofs.lemmas.Result.{IfOk-weaker}
use Rattle.pf_manifold.specs.Touches.{IsTouchOf}
use Rattle.pf_cache.specs.Manifolds.{kept_touches}
use Rattle.pf_islands.specs.Lone.{lone_numbers, made_islands}
use Rattle.pf_islands.specs.Settled.{AreSettled}
use Rattle.pf_islands.specs.Splitting.{group_islands, point_islands, woken_islands}
use Rattle.pf_islands.proofs.SettledGroups.{same_islands, woken_settled}
use Rattle.pf_islands.proofs.splitting.split.Goals as goal

pub split_settled-requires-clause-settled : goal.split_settled-requires-clause-settled
split_settled-requires-clause-settled c =
    let touches = kept_touches c.args.manifolds.now in
    let count = ap length c.as_slice-bodies.ensures.value ∙ c.in_ok-woken.ensures.as_many in
    record {
      touches = touches;
      of_bodies = subst (λ n. All (IsTouchOf n) touches) (sym count) c.requires.touches;
      as_many = c.requires.contacts;
      settled = subst (λ bs. AreSettled c.args.scene.now bs touches)
          (sym (c.as_slice-bodies.ensures.value ∙ c.in_ok-woken.ensures.bodies))
          (woken_settled c.args.scene.now touches c.args.bodies.now c.requires.bodies c.requires.touches);
      active = c.in_ok-active.ensures.points;
    }

pub returns-clause-parts : goal.returns-clause-parts
returns-clause-parts c =
    let s = c.args.scene.now in
    let touches = kept_touches c.args.manifolds.now in
    let contacts = c.args.contacts.now in
    let bodies = c.as_slice-bodies.result.now in
    let points = c.in_ok-active.active.points.items in
    let count = ap length c.as_slice-bodies.ensures.value ∙ c.in_ok-woken.ensures.as_many in
    let settled : AreSettled s bodies touches = subst (λ bs. AreSettled s bs touches)
    (sym (c.as_slice-bodies.ensures.value ∙ c.in_ok-woken.ensures.bodies))
    (woken_settled s touches c.args.bodies.now c.requires.bodies c.requires.touches) in
    let same : point_islands s bodies points contacts ≡ woken_islands s c.args.bodies.now touches contacts =
    same_islands s bodies touches contacts (count ∙ c.requires.bodies) settled points c.in_ok-active.ensures.points
    ∙ ap (λ bs. group_islands s bs touches contacts) (c.as_slice-bodies.ensures.value ∙ c.in_ok-woken.ensures.bodies) in
    IfOk-weaker c.split_settled.result _ _
    (λ found is. record {
      made = is.made ∙ ap (made_islands c.args.lone) same;
      listed = is.listed ∙ ap (lone_numbers c.args.lone) same;
      fit = is.fit;
      order = is.order;
      there = subst (λ n. All (λ number. number < n) found.lone_numbers.items) count is.there;
    })
    c.split_settled.ensures.parts
