use Rattle.std.proofs.Common.{◌≡◌, ◌∙◌, ◌+◌, ◌<◌, ap, ap₂, arith, drop, get_or, length, refl, set, subst₂, sym}
use Rattle.pf_islands.specs.Split.{Island}
use Rattle.pf_batches.specs.Islands.{island_with_first, unknowns_behind}
use Rattle.pf_batches.proofs.SideBySide.{AreStored, bodies_kept, enough_impulses, enough_velocities, rows_kept, stored_next}
use Rattle.pf_batches.proofs.islands.store_unknowns.Goals as goal

pub loop-island-preserved : goal.loop-island-preserved
loop-island-preserved c =
    let n = c.args.unknowns.now in
    let k = c.loop-island.island-index in
    let i = get_or c.loop-island.islands k c.island-item.result in
    let within : k < length c.loop-island.islands = omega (arith, c.loop-island-test.true, c.loop-island.auto.islands) in
    let after = c.store_behind.new.island in
    let left = unknowns_behind c.loop-island.bodies c.loop-island.rows n in
    let made : after ≡ island_with_first left i =
    c.store_behind.ensures ∙ ap₂ (λ v p. island_with_first (record {
      velocities = drop c.loop-island.bodies v;
      impulses = drop c.loop-island.rows p;
    }) i) c.velocities-velocities.ensures c.impulses-impulses.ensures in
    let bodies = c.len-bodies.ensures.value ∙ ap (λ (x : Island). length x.bodies) c.island.view_is ∙ bodies_kept left i after made in
    let rows = c.len-rows.ensures ∙ c.island.inside.rows.ok.0 ∙ ap (λ (x : Island). length x.rows) c.island.view_is ∙ rows_kept left i after made in
    subst₂ (λ a b. AreStored n c.args.islands.now (c.loop-island.bodies + a) (c.loop-island.rows + b) (k + 1)
    (set c.loop-island.islands k after))
    (sym bodies) (sym rows)
    (stored_next n c.args.islands.now c.loop-island.bodies c.loop-island.rows k c.loop-island.islands i c.island-item.result c.loop-island.invariant
    within refl after made)

pub overflow_add-bodies : goal.overflow_add-bodies
overflow_add-bodies c =
    let k = c.loop-island.island-index in
    let i = get_or c.loop-island.islands k c.island-item.result in
    let within : k < length c.loop-island.islands = omega (arith, c.loop-island-test.true, c.loop-island.auto.islands) in
    let enough = enough_velocities c.args.unknowns.now c.args.islands.now c.loop-island.bodies c.loop-island.rows k
    c.loop-island.islands i c.island-item.result c.loop-island.invariant within refl in
    let own = c.len-bodies.ensures.value ∙ ap (λ (x : Island). length x.bodies) c.island.view_is
    ∙ bodies_kept _ i c.store_behind.new.island c.store_behind.ensures in
    let all = ap (λ vs. length vs) c.velocities-velocities.ensures in
    omega (arith, enough, own, all)

pub overflow_add-rows : goal.overflow_add-rows
overflow_add-rows c =
    let k = c.loop-island.island-index in
    let i = get_or c.loop-island.islands k c.island-item.result in
    let within : k < length c.loop-island.islands = omega (arith, c.loop-island-test.true, c.loop-island.auto.islands) in
    let enough = enough_impulses c.args.unknowns.now c.args.islands.now c.loop-island.bodies c.loop-island.rows k
    c.loop-island.islands i c.island-item.result c.loop-island.invariant within refl in
    let own = c.len-rows.ensures ∙ c.island.inside.rows.ok.0 ∙ ap (λ (x : Island). length x.rows) c.island.view_is
    ∙ rows_kept _ i c.store_behind.new.island c.store_behind.ensures in
    let all = ap (λ ps. length ps) c.impulses-impulses.ensures in
    omega (arith, enough, own, all)
