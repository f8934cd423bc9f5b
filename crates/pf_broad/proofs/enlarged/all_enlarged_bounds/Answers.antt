use Rattle.std.proofs.Common.{◌≡◌, ℕ, [], ◌∷◌, true, sym, ap, ◌∙◌, arith, length-append}
use Rattle.std.proofs.lemmas.List.{get_or_read}
use Rattle.pf_shapes.specs.Bounds.{Bounds}
use Rattle.pf_broad.specs.Pairs.{no_bounds, bounds_at}
use Rattle.pf_broad.specs.Enlarged.{contains}
use Rattle.pf_broad.proofs.Enlarging.{append-each}
use Rattle.pf_broad.proofs.enlarged.all_enlarged_bounds.Goals as goal

pub loop-i-preserved : goal.loop-i-preserved
loop-i-preserved c =
    let bs = c.args.bounds.now in
    let i = c.loop-i.i in
    let enlarged = c.loop-i.enlarged.items in
    let next = c.enlarged_bounds.result in
    let read = get_or_read bs i c.index-bounds-i.result c.loop-i-test.true c.index-bounds-i.is no_bounds in
    let here : contains next (bounds_at bs i) ≡ true = ap (contains next) (sym read) ∙ c.enlarged_bounds.ensures in
    let P = λ (k : ℕ) (b : Bounds). contains b (bounds_at bs k) ≡ true in
    rw c.in_ok-push.ensures.items
    record {
      count = omega (arith, length-append enlarged (next ∷ []));
      each = append-each P enlarged next i c.loop-i.invariant.count here c.loop-i.invariant.each;
    }
