use Rattle.std.proofs.Common.{◌∙◌, refl}
use Rattle.pf_batches.specs.Islands.{batch_of}
use Rattle.pf_batches.proofs.OfLevels.{early_in, loaded_for, loaded_on, overlap_for, overlap_on}
use Rattle.pf_batches.proofs.SideBySide.{batch_of_batches, islands_after_rounds}
use Rattle.pf_batches.proofs.batch.solve_loaded.Goals as goal

pub solve_unknowns-done-requires-clause-bundles : goal.solve_unknowns-done-requires-clause-bundles
solve_unknowns-done-requires-clause-bundles c =
    let h = c.requires.loaded in
    loaded_on (batch_of c.args.islands.now) h.0 h.1 c.args.early_levels c.args.rows.now c.args.unknowns.now c.args.bundles.now c.args.overlap_bundles.now
    h.2 h.3 (batch_of_batches c.args.islands.now c.requires.batches)

pub solve_unknowns-done-requires-clause-early_levels : goal.solve_unknowns-done-requires-clause-early_levels
solve_unknowns-done-requires-clause-early_levels c =
    let h = c.requires.loaded in
    early_in (batch_of c.args.islands.now) h.0 h.1 c.args.early_levels c.args.rows.now c.args.unknowns.now c.args.bundles.now c.args.overlap_bundles.now
    h.2 h.3

pub solve_unknowns-done-requires-clause-overlap_bundles : goal.solve_unknowns-done-requires-clause-overlap_bundles
solve_unknowns-done-requires-clause-overlap_bundles c =
    let h = c.requires.loaded in
    overlap_on (batch_of c.args.islands.now) h.0 h.1 c.args.early_levels c.args.rows.now c.args.unknowns.now c.args.bundles.now c.args.overlap_bundles.now
    h.2 h.3 (batch_of_batches c.args.islands.now c.requires.batches)

pub store_unknowns-requires : goal.store_unknowns-requires
store_unknowns-requires c =
    let b = batch_of c.args.islands.now in
    let h = c.requires.loaded in
    let n = c.args.unknowns.now in
    c.if-done.ensures.fit refl b h.0 h.1
    (loaded_for b h.0 h.1 c.args.early_levels c.args.rows.now n c.args.bundles.now c.args.overlap_bundles.now h.2 h.3)
    (overlap_for b h.0 h.1 c.args.early_levels c.args.rows.now n c.args.bundles.now c.args.overlap_bundles.now h.2 h.3) h.2.unknowns

pub returns-then-done-clause-solved : goal.returns-then-done-clause-solved
returns-then-done-clause-solved c = λ done.
    let b = batch_of c.args.islands.now in
    let h = c.requires.loaded in
    let n = c.args.unknowns.now in
    let own = loaded_for b h.0 h.1 c.args.early_levels c.args.rows.now n c.args.bundles.now c.args.overlap_bundles.now h.2 h.3 in
    let over = overlap_for b h.0 h.1 c.args.early_levels c.args.rows.now n c.args.bundles.now c.args.overlap_bundles.now h.2 h.3 in
    c.store_unknowns.ensures
    ∙ islands_after_rounds c.args.islands.now c.solve_unknowns-done.new.unknowns c.requires.batches
    (c.if-done.ensures.fit refl b h.0 h.1 own over h.2.unknowns)
    (c.if-done.ensures.value refl b h.0 h.1 h.2.order h.3.does_late_and_early own over h.2.unknowns)
