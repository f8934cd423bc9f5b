use Rattle.std.proofs.Common.{rules, ◌≡◌, ◌∙◌, ◌++◌, List, ap, length, map, sym, subst}
use Rattle.std.specs.Prelude.{All}
use Rattle.std.proofs.lemmas.List.{length-map}
use Rattle.pf_islands.specs.Split.{Island, IsIslandOf}
use Rattle.pf_solver.specs.Alone.{island_after_tick}
use Rattle.pf_workers.specs.Dealing.{AreShares}
use Rattle.pf_workers.proofs.Shares.{shares_all, shares_mapped}
use Rattle.pf_workers.proofs.scoped.ScopedCrew.solve.Goals as goal

pub run-requires-after_bounds : goal.run-requires-after_bounds
run-requires-after_bounds g c κs outlives =
    let islands : List Island = c.args.islands.items in
    let fit : All (IsIslandOf c.args.scene.now) islands = c.requires in
    let stacks : List (List Island) = c.in_ok-stacks.stacks.items in
    let shares : AreShares islands stacks = c.in_ok-stacks.ensures.shares in
    shares_all (IsIslandOf c.args.scene.now) 0 islands stacks fit shares

pub returns-clause-solved : goal.returns-clause-solved
returns-clause-solved g c =
    let f = island_after_tick c.args.scene.now in
    let islands = c.args.islands.items in
    let stacks = c.in_ok-stacks.stacks.items in
    let many : length islands ≡ c.len-count.result = search rules in
    c.in_ok-_empty.ensures.gathered (map f islands)
    (subst (AreShares (map f islands)) (sym c.in_ok-solved.ensures.solved) (shares_mapped f 0 islands stacks c.in_ok-stacks.ensures.shares))
    (length-map islands f ∙ many)
    ∙ ap (λ l. l ++ map f islands) c.in_ok-stacks.ensures.rest
