use Rattle.std.proofs.Common.{◌∙◌, ◌-◌, drop, length, subst, sym, take, arith}
use Rattle.std.proofs.lemmas.List.{length-drop, take_all}
use Rattle.std.proofs.lemmas.List.Elements.{All-drop, All-take}
use Rattle.pf_solver.specs.Impulse.{after_warm_start}
use Rattle.pf_solver.specs.Order.{solved_by_levels}
use Rattle.pf_batches.specs.Unknowns.{AreBundlesFor, IsBundleOn}
use Rattle.pf_batches.proofs.InBundles.{bundles_stay, early_for, late_for}
use Rattle.pf_batches.proofs.Levels.{own_start, velocities_by_overlap}
use Rattle.pf_batches.proofs.passes.solve_unknowns.Goals as goal

pub rounds-requires-clause-first : goal.rounds-requires-clause-first
rounds-requires-clause-first c =
    let rows = c.args.rows.now in
    let bundles = c.args.bundles.now in
    bundles_stay rows c.args.unknowns.now c.solve_bundles.new.unknowns (take c.args.early_levels bundles) c.in-Some.ensures.many
    (All-take (IsBundleOn rows c.args.unknowns.now) c.args.early_levels bundles c.requires.bundles)

pub rounds-requires-clause-across : goal.rounds-requires-clause-across
rounds-requires-clause-across c =
    bundles_stay c.args.rows.now c.args.unknowns.now c.solve_bundles.new.unknowns c.args.overlap_bundles.now c.in-Some.ensures.many c.requires.overlap_bundles

pub rounds-requires-clause-last : goal.rounds-requires-clause-last
rounds-requires-clause-last c =
    let rows = c.args.rows.now in
    let bundles = c.args.bundles.now in
    let on = IsBundleOn rows c.args.unknowns.now in
    let count = length bundles - c.args.early_levels in
    bundles_stay rows c.args.unknowns.now c.solve_bundles.new.unknowns (take count (drop c.args.early_levels bundles)) c.in-Some.ensures.many
    (All-take on count (drop c.args.early_levels bundles) (All-drop on c.args.early_levels bundles c.requires.bundles))

pub returns-in-Some-clause-value : goal.returns-in-Some-clause-value
returns-in-Some-clause-value c = λ done b levels across of over for across_for same.
    let rows = c.args.rows.now in
    let bundles = c.args.bundles.now in
    let early_levels = c.args.early_levels in
    let all = take_all (length bundles - early_levels) (drop early_levels bundles) (omega (arith, length-drop early_levels bundles)) in
    let last = subst (AreBundlesFor b (drop early_levels levels) rows) (sym all) (late_for b levels rows bundles early_levels c.requires.early_levels for) in
    (c.rounds.ensures done b (solved_by_levels levels after_warm_start b) (take early_levels levels) across (drop early_levels levels)
    (early_for b levels rows bundles early_levels c.requires.early_levels for) across_for last
    (c.in-Some.ensures.value b b levels for (own_start b c.args.unknowns.now same))).batch
    ∙ velocities_by_overlap b levels across early_levels of over

pub returns-in-Some-clause-fit : goal.returns-in-Some-clause-fit
returns-in-Some-clause-fit c = λ done b levels across for across_for same.
    let rows = c.args.rows.now in
    let bundles = c.args.bundles.now in
    let early_levels = c.args.early_levels in
    let all = take_all (length bundles - early_levels) (drop early_levels bundles) (omega (arith, length-drop early_levels bundles)) in
    let last = subst (AreBundlesFor b (drop early_levels levels) rows) (sym all) (late_for b levels rows bundles early_levels c.requires.early_levels for) in
    (c.rounds.ensures done b (solved_by_levels levels after_warm_start b) (take early_levels levels) across (drop early_levels levels)
    (early_for b levels rows bundles early_levels c.requires.early_levels for) across_for last
    (c.in-Some.ensures.value b b levels for (own_start b c.args.unknowns.now same))).unknowns
