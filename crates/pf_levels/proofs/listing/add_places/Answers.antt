use Rattle.std.proofs.Common.{rules, ◌≡◌, ◌∙◌, ◌++◌, take, append_assoc, ap, sym}
use Rattle.std.specs.List.{concat}
use Rattle.pf_levels.proofs.InOrder.{concat_more}
use Rattle.pf_levels.proofs.listing.add_places.Goals as goal

pub loop-level-preserved : goal.loop-level-preserved
loop-level-preserved c =
    let before = c.args.order.now.items in
    let levels = c.args.levels.now in
    let i = c.loop-level.level-index in
    let pushed : c.extend_from_slice.new.self.items ≡ c.loop-level.order.items ++ c.level-item.result = search rules in
    pushed ∙ ap (λ xs. xs ++ c.level-item.result) c.loop-level.invariant
    ∙ append_assoc before (concat (take i levels)) c.level-item.result
    ∙ ap (λ xs. before ++ (concat (take i levels) ++ xs)) c.level-item.is
    ∙ ap (λ xs. before ++ xs) (sym (concat_more levels i c.level-item.result c.loop-level-test.true))
