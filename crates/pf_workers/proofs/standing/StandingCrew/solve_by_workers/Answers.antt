use Rattle.std.proofs.Common.{rules, ◌≡◌, ◌∙◌, ◌++◌, ◌<◌, ap, arith, length, map, sym, subst}
use Rattle.std.proofs.lemmas.List.{length-map}
use Rattle.std.specs.Prelude.{All}
use Rattle.pf_islands.specs.Split.{IsIslandOf}
use Rattle.pf_solver.specs.Alone.{island_after_tick}
use Rattle.pf_workers.proofs.Shares.{shares_after, shares_all}
use Rattle.pf_workers.proofs.Answered.{back}
use Rattle.pf_workers.proofs.standing.StandingCrew.solve_by_workers.Goals as goal

pub deal-requires-clause-some : goal.deal-requires-clause-some
deal-requires-clause-some g c = omega (arith, c.in_ok-empty.ensures.count, c.stack_count-stack_count.ensures.some)

pub run-requires-clause-islands : goal.run-requires-clause-islands
run-requires-clause-islands g c =
    subst (All (All (IsIslandOf c.args.scene.now))) (sym c.deref_mut.ensures.value)
    (shares_all (IsIslandOf c.args.scene.now) 0 c.args.islands.items c.in_ok-stacks.stacks.items c.requires c.in_ok-stacks.ensures.shares)

pub gather-requires : goal.gather-requires
gather-requires g c =
    let f = map (island_after_tick c.args.scene.now) in
    let solved =
    back (island_after_tick c.args.scene.now) c.in_ok-stacks.stacks.len c.run.new.stacks c.in_ok-stacks.stacks.items
    c.deref_mut.result.now c.in_ok-stacks.stacks.ok.0 c.deref_mut.ensures.value c.in_ok-run.ensures.solved in
    subst (λ l. 0 < length l) (sym solved)
    (omega (arith, c.in_ok-empty.ensures.count, c.stack_count-stack_count.ensures.some, c.in_ok-stacks.ensures.count, length-map c.in_ok-stacks.stacks.items f))

pub invariant_of-self : goal.invariant_of-self
invariant_of-self g c =
    let f = island_after_tick c.args.scene.now in
    let islands = c.args.islands.items in
    let many : length islands ≡ c.len-count.result = search rules in
    let solved =
    back (island_after_tick c.args.scene.now) c.in_ok-stacks.stacks.len c.run.new.stacks c.in_ok-stacks.stacks.items
    c.deref_mut.result.now c.in_ok-stacks.stacks.ok.0 c.deref_mut.ensures.value c.in_ok-run.ensures.solved in (
      c.self.invariant.0,
      c.self.invariant.1,
      c.in_ok-self-inside.ensures.empty (map f islands) (shares_after f islands _ _ c.in_ok-stacks.ensures.shares solved)
          (length-map islands f ∙ many),
    )

pub returns-clause-solved : goal.returns-clause-solved
returns-clause-solved g c =
    let f = island_after_tick c.args.scene.now in
    let islands = c.args.islands.items in
    let many : length islands ≡ c.len-count.result = search rules in
    let solved =
    back (island_after_tick c.args.scene.now) c.in_ok-stacks.stacks.len c.run.new.stacks c.in_ok-stacks.stacks.items
    c.deref_mut.result.now c.in_ok-stacks.stacks.ok.0 c.deref_mut.ensures.value c.in_ok-run.ensures.solved in
    c.in_ok-self-inside.ensures.gathered (map f islands)
    (shares_after f islands _ _ c.in_ok-stacks.ensures.shares solved)
    (length-map islands f ∙ many)
    ∙ ap (λ l. l ++ map f islands) c.in_ok-stacks.ensures.rest
