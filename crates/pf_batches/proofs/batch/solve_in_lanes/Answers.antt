use Rattle.std.proofs.Common.{◌≡◌, ◌∙◌, rules, length, map, ap, subst, sym}
use Rattle.std.proofs.lemmas.List.{length-map}
use Rattle.pf_levels.specs.Levels.{pair_of}
use Rattle.pf_batches.specs.Islands.{IsLoaded, IsOverlapLoaded, batch_of}
use Rattle.pf_batches.proofs.OfLevels.{as_many_held, no_overlap}
use Rattle.pf_batches.proofs.batch.solve_in_lanes.Goals as goal

pub load_overlap-requires-clause-rows : goal.load_overlap-requires-clause-rows
load_overlap-requires-clause-rows c =
    let b = batch_of c.args.islands.now in
    let loaded : IsLoaded b c.load_levels.new.levels c.deref-3.result.now c.load_bundles_of.new.unknowns c.load_bundles_of.new.bundles.items =
    search rules in
    let pairs : c.deref-2.result.now ≡ map pair_of b.rows = search rules in
    as_many_held c.deref-3.result.now b.rows loaded.rows ∙ sym (ap length pairs ∙ length-map b.rows pair_of)

pub solve_loaded-requires-in-None-clause-loaded : goal.solve_loaded-requires-in-None-clause-loaded
solve_loaded-requires-in-None-clause-loaded c =
    let b = batch_of c.args.islands.now in
    let levels = c.load_levels.new.levels in
    let rows = c.deref-in-None.result.now in
    let bundles = c.deref-in-None-2.result.now in
    let loaded : IsLoaded b levels rows c.load_bundles_of.new.unknowns bundles = search rules in
    let same : bundles ≡ c.deref-in-None-3.result.now = search rules in (
      levels,
      levels,
      loaded,
      subst (IsOverlapLoaded (map pair_of b.rows) rows 0 levels levels) same (no_overlap b levels rows c.load_bundles_of.new.unknowns bundles loaded),
    )
