use Rattle.std.proofs.Common.{◌≡◌, ◌∙◌, ◌<◌, length, ap, rules, subst, sym}
use Rattle.std.proofs.lemmas.List.{length-map}
use Rattle.std.specs.Prelude.{All}
use Rattle.pf_levels.specs.Levels.{pair_of}
use Rattle.pf_batches.specs.Islands.{AreHeldBy, batch_of}
use Rattle.pf_batches.proofs.OfLevels.{as_many_held, levels_within}
use Rattle.pf_batches.proofs.batch.load_bundles_of.Goals as goal

pub load_bundles-requires-clause-pairs : goal.load_bundles-requires-clause-pairs
load_bundles-requires-clause-pairs c =
    let b = batch_of c.args.islands.now in
    let many : length b.rows ≡ length c.args.pairs.now = sym (ap length c.requires.pairs ∙ length-map b.rows pair_of) in
    subst (λ levels. All (All (λ p. p < length c.args.pairs.now)) levels) (sym c.levels.ensures)
    (subst (λ n. All (All (λ p. p < n)) c.args.levels.now) many (levels_within b c.args.levels.now c.requires.levels))

pub load_bundles-requires-clause-rows : goal.load_bundles-requires-clause-rows
load_bundles-requires-clause-rows c =
    let b = batch_of c.args.islands.now in
    let held : AreHeldBy c.load_rows.new.lanes.items b.rows = search rules in
    let many : length b.rows ≡ length c.deref.result.now =
    sym (ap length c.deref.ensures.value ∙ as_many_held c.load_rows.new.lanes.items b.rows held) in
    subst (λ levels. All (All (λ p. p < length c.deref.result.now)) levels) (sym c.levels.ensures)
    (subst (λ n. All (All (λ p. p < n)) c.args.levels.now) many (levels_within b c.args.levels.now c.requires.levels))
