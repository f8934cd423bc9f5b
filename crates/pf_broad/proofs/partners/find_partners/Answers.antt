use Rattle.std.proofs.Common.{◌≡◌, ℕ, ◌&&◌, ◌||◌, length, nat_lt, ap, ◌∙◌}
use Rattle.std.proofs.lemmas.List.{get_or_read}
use Rattle.std.proofs.lemmas.List.Filters.{dedup_is}
use Rattle.pf_broad.specs.Pairs.{no_bounds, bounds_at, is_pair}
use Rattle.pf_broad.specs.Cell.{cells_of, is_wide}
use Rattle.pf_broad.specs.Partners.{has_body, is_found}
use Rattle.pf_broad.proofs.Partnering.{filter-AreBodies, has_body-more, found_everywhere}
use Rattle.pf_broad.proofs.Rising.{sorted_once}
use Rattle.pf_broad.proofs.partners.find_partners.Goals as goal

pub add_overlapping-requires-clause-others : goal.add_overlapping-requires-clause-others
add_overlapping-requires-clause-others c =
    filter-AreBodies c.args.bounds.now _ c.wide.result.now (c.wide.ensures ∙ c.requires.grid.wide)

pub returns : goal.returns
returns c =
    let bs = c.args.bounds.now in
    let i = c.args.i in
    let read : c.index-bounds-i.result ≡ bounds_at bs i = get_or_read bs i c.index-bounds-i.result c.requires.body c.index-bounds-i.is no_bounds in
    let cells : c.of-range.result ≡ cells_of (bounds_at bs i) = c.of-range.ensures.value ∙ ap cells_of read in
    let none : (j : ℕ) → has_body c.clear.new.self.items j ≡ _ = λ j. ap (λ l. has_body l j) c.clear.ensures.items in
    let all : (j : ℕ) → has_body c.add_overlapping.new.partners.items j ≡ (is_pair bs i j && nat_lt j (length bs)) = λ j.
    has_body-more bs i j (λ k. is_wide (bounds_at bs k)) c.add_from_cells.new.partners.items c.add_overlapping.new.partners.items c.wide.result.now c.in_ok-add_overlapping.ensures (c.wide.ensures ∙ c.requires.grid.wide)
    ∙ ap (λ b. b || (is_pair bs i j && (is_wide (bounds_at bs j) && nat_lt j (length bs)))) (c.in_ok-add_from_cells.ensures j ∙ ap (λ b. b || (is_pair bs i j && is_found bs c.of-range.result j)) (none j))
    ∙ found_everywhere bs i j c.of-range.result cells in
    dedup_is _ _ _ c.dedup.ensures.filtered
    ∙ sorted_once (is_pair bs i) (length bs) c.add_overlapping.new.partners.items c.sort_unstable.new.self.items all c.sort_unstable.ensures.permutation c.sort_unstable.ensures.sorted
