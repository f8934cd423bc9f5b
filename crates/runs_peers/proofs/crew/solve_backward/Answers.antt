use Rattle.std.proofs.Common.{◌≡◌, ◌∙◌, ◌+◌, ◌-◌, ◌++◌, ◌<◌, ℕ, ap, arith, drop, length, map, subst, sym, take}
use Rattle.pf_islands.specs.Split.{IsIslandOf, Island}
use Rattle.pf_solver.specs.Alone.{island_after_tick}
use Rattle.runs_peers.proofs.Backward.{same_before, solved_before}
use Rattle.runs_peers.proofs.crew.solve_backward.Goals as goal

pub solve_island-requires : goal.solve_island-requires
solve_island-requires c =
    let xs = c.args.islands.now in
    let ys = c.loop-done.islands in
    let d : Island = c.index-islands-place.result in
    let place : ℕ = length ys - 1 - c.loop-done.done in
    let same : length ys ≡ length xs = c.loop-done.auto.islands in
    let within : place < length xs = omega (arith, same, c.loop-done-test.true) in
    let next : length xs - c.loop-done.done ≡ place + 1 = omega (arith, same, c.loop-done-test.true) in
    subst (IsIslandOf c.args.scene.now)
    (sym (same_before (island_after_tick c.args.scene.now) xs ys (length xs - c.loop-done.done) place d next within c.loop-done.invariant))
    (c.requires place d within)

pub loop-done-preserved : goal.loop-done-preserved
loop-done-preserved c =
    let xs = c.args.islands.now in
    let ys = c.loop-done.islands in
    let d : Island = c.index-islands-place.result in
    let f = island_after_tick c.args.scene.now in
    let place : ℕ = length ys - 1 - c.loop-done.done in
    let same : length ys ≡ length xs = c.loop-done.auto.islands in
    let within : place < length xs = omega (arith, same, c.loop-done-test.true) in
    let next : length xs - c.loop-done.done ≡ place + 1 = omega (arith, same, c.loop-done-test.true) in
    let left : place ≡ length xs - (c.loop-done.done + 1) = omega (arith, same, c.loop-done-test.true) in
    solved_before f xs ys (length xs - c.loop-done.done) place d next within c.loop-done.invariant c.solve_island.new.island
    (c.solve_island.ensures
    ∙ ap f (same_before f xs ys (length xs - c.loop-done.done) place d next within c.loop-done.invariant))
    ∙ ap (λ n. take n xs ++ map f (drop n xs)) left
