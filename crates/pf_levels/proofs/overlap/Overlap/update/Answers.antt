use Rattle.std.proofs.Common.{rules, ◌≡◌, ◌∙◌, ◌<◌, ap, length, map, subst, sym}
use Rattle.std.proofs.lemmas.Result.{on_ok_weaker}
use Rattle.std.specs.Prelude.{All}
use Rattle.pf_levels.specs.Levels.{AreLevels, ArePairsOf}
use Rattle.pf_levels.specs.Order.{row_pair_at, place_at}
use Rattle.pf_levels.specs.Overlap.{AreLevelsInOrder, late_then_early}
use Rattle.pf_levels.proofs.InOrder.{late_early_within, pairs_in_order}
use Rattle.pf_levels.proofs.overlap.Overlap.update.Goals as goal

pub update-requires : goal.update-requires
update-requires c =
    let pairs = c.args.pairs.now in
    let order = c.deref.result.now in
    let listed : order ≡ late_then_early c.args.early c.args.levels.now = search rules in
    let are : c.deref-2.result.now ≡ map (row_pair_at pairs) order = search rules in
    let within = subst (All (λ p. p < length pairs)) (sym listed) (late_early_within pairs c.args.levels.now c.requires.levels c.args.early) in
    subst (ArePairsOf c.args.bodies) (sym are) (pairs_in_order c.args.bodies pairs order c.requires.pairs within)

pub returns : goal.returns
returns c =
    let pairs = c.args.pairs.now in
    let order = c.deref.result.now in
    let levels = c.levels.result.now in
    let listed : order ≡ late_then_early c.args.early c.args.levels.now = search rules in
    let pairs_are : c.deref-2.result.now ≡ map (row_pair_at pairs) order = search rules in
    let are : AreLevels (map (row_pair_at pairs) order) levels =
    subst (AreLevels (map (row_pair_at pairs) order)) (sym c.levels.ensures)
    (subst (λ ps. AreLevels ps c.update.new.self) pairs_are c.in_ok-update.ensures.levels) in
    let same : c.deref-3.result.now ≡ order = search rules in
    on_ok_weaker c.list_levels.result
    (λ places.
    subst (λ o. AreLevelsInOrder pairs o c.list_levels.new.found.items) listed (record {
      numbered = levels;
      are = are;
      places = places ∙ ap (λ o. map (map (place_at o)) levels) same;
    }))
    c.list_levels.ensures
