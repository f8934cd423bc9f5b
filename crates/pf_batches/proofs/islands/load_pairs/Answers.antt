use Rattle.std.proofs.Common.{◌≡◌, ◌∙◌, ◌+◌, ◌++◌, ap, ap₂, arith, length, subst₂, sym, take}
use Rattle.std.proofs.lemmas.Grind.{common_steps}
use Rattle.std.proofs.lemmas.List.Elements.{All-take}
use Rattle.pf_islands.specs.Split.{Island}
use Rattle.pf_levels.specs.Levels.{ArePairsOf}
use Rattle.pf_solver.specs.Alone.{batch_in}
use Rattle.pf_solver.specs.Beside.{IsBatch}
use Rattle.pf_batches.specs.Islands.{batch_of, pairs_behind}
use Rattle.pf_batches.proofs.SideBySide.{batch_of_batches, bodies_more, pairs_more, pairs_of_batch}
use Rattle.pf_batches.proofs.islands.load_pairs.Goals as goal

pub loop-island-preserved : goal.loop-island-preserved
loop-island-preserved c =
    let islands = c.args.islands.now in
    let k = c.loop-island.island-index in
    let i = c.island-item.result in
    let is = c.island-item.is in
    let within = c.loop-island-test.true in
    let end : c.in_ok-end.end ≡ c.loop-island.count + length i.bodies = grind (arith, common_steps) in
    record {
      count = end
          ∙ ap₂ (λ n m. n + m) c.loop-island.invariant.count (ap (λ (x : Island). length x.bodies) is)
          ∙ sym (bodies_more islands k i within);
      pairs = c.in_ok-add_pairs.ensures ∙ ap₂ (λ front more. front ++ more) c.loop-island.invariant.pairs
          (ap₂ (λ n (x : Island). pairs_behind n x.rows) c.loop-island.invariant.count is)
          ∙ sym (pairs_more islands k i within);
    }

pub returns-clause-places : goal.returns-clause-places
returns-clause-places c =
    let some = take c.loop-island.island-index c.args.islands.now in
    subst₂ ArePairsOf (sym c.loop-island.invariant.count) (sym c.loop-island.invariant.pairs)
    (pairs_of_batch (batch_of some)
    (batch_of_batches some (All-take (λ (i : Island). IsBatch (batch_in i)) c.loop-island.island-index c.args.islands.now c.requires)))
