use Rattle.std.proofs.Common.{ℕ, List, ◌++◌, map, sym, ap, ◌∙◌}
use Rattle.pf_shapes.specs.Pair.{Pair}
use Rattle.pf_broad.specs.Pairs.{pair, pairs_of}
use Rattle.pf_broad.proofs.Finding.{pairs-more}
use Rattle.pf_broad.proofs.all_pairs.all_pairs.Goals as goal

pub loop-i-preserved : goal.loop-i-preserved
loop-i-preserved c =
    let bs = c.args.bounds.now in
    let i = c.loop-i.i in
    c.in_ok-add_pairs.ensures
    ∙ ap (λ (ks : List ℕ). c.loop-i.found.items ++ map (pair i) ks) (c.deref.ensures.value ∙ c.in_ok-find_partners.ensures)
    ∙ ap (λ (ps : List Pair). ps ++ pairs_of bs i) c.loop-i.invariant
    ∙ sym (pairs-more bs i)
