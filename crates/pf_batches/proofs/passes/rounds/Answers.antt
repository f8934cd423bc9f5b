use Rattle.std.proofs.Common.{◌≡◌, arith, subst}
use Rattle.pf_solver.specs.Impulse.{after_round}
use Rattle.pf_solver.specs.Order.{passes_in_levels, solved_by_levels}
use Rattle.pf_batches.specs.Unknowns.{AreUnknownsAfter}
use Rattle.pf_batches.proofs.InBundles.{bundles_stay}
use Rattle.pf_batches.proofs.passes.rounds.Goals as goal

pub solve_bundles-requires-in-loop-round-clause-bundles : goal.solve_bundles-requires-in-loop-round-clause-bundles
solve_bundles-requires-in-loop-round-clause-bundles c =
    bundles_stay c.args.rows.now c.args.unknowns.now c.loop-round.unknowns c.args.overlap_bundles.now c.loop-round.invariant.many c.requires.across

pub solve_bundles-requires-2-clause-bundles : goal.solve_bundles-requires-2-clause-bundles
solve_bundles-requires-2-clause-bundles c =
    bundles_stay c.args.rows.now c.args.unknowns.now c.loop-round.unknowns c.args.late_bundles.now c.loop-round.invariant.many c.requires.last

pub returns-in-Some-solve_bundles-2 : goal.returns-in-Some-solve_bundles-2
returns-in-Some-solve_bundles-2 c = λ done b after first across last for_first for_across for_last start.
    let all : c.loop-round._round ≡ 9 = omega arith in
    let begun = solved_by_levels first after_round after in
    c.in-Some-solve_bundles-2.ensures.value b (passes_in_levels 9 across after_round begun) last for_last
    (subst (λ k. AreUnknownsAfter b (passes_in_levels k across after_round begun) c.loop-round.unknowns) all
    (c.loop-round.invariant.value b after first across for_first for_across start))
