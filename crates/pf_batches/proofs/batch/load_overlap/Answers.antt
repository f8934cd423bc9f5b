use Rattle.std.proofs.Common.{◌-◌, ◌/◌, ◌<◌, rules, arith, length, subst, sym}
use Rattle.std.specs.Prelude.{All}
use Rattle.pf_levels.specs.Overlap.{AreLevelsInOrder, late_then_early}
use Rattle.pf_levels.proofs.InOrder.{in_order_within, late_early_within}
use Rattle.pf_bundles.specs.Bundle.{AreBundlesOf}
use Rattle.pf_solver.proofs.Overlap.{late_and_early}
use Rattle.pf_batches.proofs.batch.load_overlap.Goals as goal

pub load_bundles-requires-clause-pairs : goal.load_bundles-requires-clause-pairs
load_bundles-requires-clause-pairs c =
    let pairs = c.args.pairs.now in
    let levels = c.args.levels.now in
    let early_levels = length levels / 2 - length levels / 10 in
    let of : AreLevelsInOrder pairs (late_then_early early_levels levels) c.update.new.self = search rules in
    subst (All (All (λ p. p < length pairs))) (sym c.levels-2.ensures)
    (in_order_within pairs (late_then_early early_levels levels) c.update.new.self (late_early_within pairs levels c.requires.levels early_levels) of)

pub load_bundles-requires-clause-rows : goal.load_bundles-requires-clause-rows
load_bundles-requires-clause-rows c =
    subst (λ n. All (All (λ p. p < n)) c.levels-2.result.now) (sym c.requires.rows) (load_bundles-requires-clause-pairs c)

pub returns : goal.returns
returns c =
    let pairs = c.args.pairs.now in
    let levels = c.args.levels.now in
    let early_levels = length levels / 2 - length levels / 10 in
    let of : AreLevelsInOrder pairs (late_then_early early_levels levels) c.update.new.self = search rules in
    record {
      early_in_levels = omega arith;
      does_late_and_early = λ step b is. late_and_early step pairs levels c.update.new.self early_levels b c.requires.levels of is;
      within = in_order_within pairs (late_then_early early_levels levels) c.update.new.self (late_early_within pairs levels c.requires.levels early_levels) of;
      each = subst (λ across. AreBundlesOf pairs c.args.rows.now across c.load_bundles.new.bundles.items) c.levels-2.ensures (search rules);
    }
