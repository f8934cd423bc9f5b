use Rattle.std.proofs.Common.{◌∙◌, ◌≡◌, ap, subst, sym, take, ◌+◌, ◌++◌, [], ◌∷◌}
use Rattle.std.proofs.lemmas.List.{take_more}
use Rattle.pf_bundles.specs.Bundle.{IsBundleOf}
use Rattle.pf_bundles.proofs.Bundles.{one_more}
use Rattle.pf_bundles.proofs.bundle.load_bundles.Goals as goal

pub loop-level-preserved : goal.loop-level-preserved
loop-level-preserved c =
    let pairs = c.args.pairs.now in
    let rows = c.args.rows.now in
    let levels = c.args.levels.now in
    let i = c.loop-level.level-index in
    let is : IsBundleOf pairs rows c.level-item.result c.of.result = subst (λ x. IsBundleOf pairs rows x c.of.result) c.places.ensures.places c.of.ensures in
    let more : take (i + 1) levels ≡ take i levels ++ c.level-item.result ∷ [] =
    take_more levels i c.level-item.result c.loop-level-test.true ∙ ap (λ x. take i levels ++ x ∷ []) (sym c.level-item.is) in
    rw (c.in_ok-push.ensures.items, more) (one_more pairs rows (take i levels) c.loop-level.bundles.items c.level-item.result c.of.result c.loop-level.invariant is)
