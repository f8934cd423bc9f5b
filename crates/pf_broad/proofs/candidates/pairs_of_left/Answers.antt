use Rattle.std.proofs.Common.{◌≡◌, ◌++◌, ℕ, List, map, filter, sym, ap, ◌∙◌}
use Rattle.std.proofs.lemmas.List.Elements.{filter-append}
use Rattle.std.specs.List.{flat_map, range_with_len}
use Rattle.pf_broad.specs.Enlarged.{has_one_of}
use Rattle.pf_broad.specs.Pairs.{is_pair, pair, pairs_of, partners_of}
use Rattle.pf_broad.specs.Partners.{has_body}
use Rattle.pf_broad.proofs.Finding.{pairs-more}
use Rattle.pf_broad.proofs.Searching.{row_of_left, row_of_other}
use Rattle.pf_broad.proofs.Partnering.{filter-AreBodies}
use Rattle.pf_broad.proofs.candidates.pairs_of_left.Goals.{then-is_left-i+in_ok-add_later, else-is_left-i+in_ok-add_overlapping}
use Rattle.pf_broad.proofs.candidates.pairs_of_left.Goals as goal

pub add_overlapping-requires-clause-others : goal.add_overlapping-requires-clause-others
add_overlapping-requires-clause-others c =
    filter-AreBodies c.args.enlarged.now (has_body c.args.left.now) c.args.left.now c.requires.left

pub loop-i-preserved : goal.loop-i-preserved
loop-i-preserved c =
    let bs = c.args.enlarged.now in
    let left = c.args.left.now in
    let i = c.loop-i.i in
    let is = c.requires.flags i c.loop-i-test.true in
    let row : map (pair i) c.if-is_left-i.partners.items ≡ filter (has_one_of left) (pairs_of bs i) =
    elim c.if-is_left-i.branch [
      | then-is_left-i+in_ok-add_later w ↦
          rw w.partners-is
          (ap (map (pair i)) (w.in_ok-add_later.ensures ∙ ap (λ (l : List ℕ). l ++ partners_of bs i) c.clear.ensures.items)
          ∙ sym (row_of_left bs left i (sym is ∙ w.if-is_left-i.true)))
      | else-is_left-i+in_ok-add_overlapping w ↦
          rw w.partners-is
          (ap (map (pair i)) (w.in_ok-add_overlapping.ensures ∙ ap (λ (l : List ℕ). l ++ filter (is_pair bs i) left) c.clear.ensures.items)
          ∙ sym (row_of_other bs left i (sym is ∙ w.if-is_left-i.false) c.requires.left))
    ] in
    c.in_ok-add_pairs.ensures
    ∙ ap (λ (ks : List ℕ). c.loop-i.fresh.items ++ map (pair i) ks) c.deref.ensures.value
    ∙ (λ k. c.loop-i.invariant k ++ row k)
    ∙ sym (filter-append (has_one_of left) (flat_map (pairs_of bs) (range_with_len 0 i)) (pairs_of bs i))
    ∙ ap (filter (has_one_of left)) (sym (pairs-more bs i))
