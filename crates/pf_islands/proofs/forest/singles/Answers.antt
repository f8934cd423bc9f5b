use Rattle.std.proofs.Common.{rules, ◌∙◌, ap, ◌++◌, ◌∷◌, []}
use Rattle.pf_islands.proofs.Roots.{range_more}
use Rattle.pf_islands.proofs.forest.singles.Goals as goal

pub loop-body-preserved : goal.loop-body-preserved
loop-body-preserved c = record {
  made = c.push_reserved.ensures.items ∙ ap (λ xs. xs ++ c.loop-body.body ∷ []) c.loop-body.invariant.made
      ∙ range_more c.loop-body.body;
  count = search rules;
  room = search rules;
}
