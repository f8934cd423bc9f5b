use Rattle.std.proofs.Common.{◌≡◌, ◌&&◌, ℕ, filter, length, nat_lt, not, ap, ◌∙◌}
use Rattle.std.proofs.lemmas.List.{take_all}
use Rattle.std.proofs.lemmas.List.Filters.{dedup_is}
use Rattle.pf_broad.specs.Enlarged.{contains}
use Rattle.pf_broad.specs.Pairs.{bounds_at}
use Rattle.pf_broad.specs.Partners.{has_body}
use Rattle.pf_broad.proofs.Leaving.{left-listed}
use Rattle.pf_broad.proofs.Ranges.{has_body-filter}
use Rattle.pf_broad.proofs.Rising.{sorted_once}
use Rattle.pf_broad.proofs.enlarged.left_bodies.Goals as goal

pub returns : goal.returns
returns c =
    let bs = c.args.bounds.now in
    let enlarged = c.args.enlarged.now in
    let dirty = c.args.dirty.now in
    let left = λ (k : ℕ). not (contains (bounds_at enlarged k) (bounds_at bs k)) in
    let found = c.loop-number.left.items in
    let all : (j : ℕ) → has_body found j ≡ (left j && nat_lt j (length bs)) = λ j.
    ap (λ l. has_body l j) (c.loop-number.invariant ∙ ap (filter left) (take_all c.loop-number.number-index dirty c.loop-number-test.false))
    ∙ has_body-filter left dirty j ∙ left-listed enlarged bs dirty c.requires.dirty c.requires.others j in
    dedup_is _ _ _ c.dedup.ensures.filtered
    ∙ sorted_once left (length bs) found c.sort_unstable.new.self.items all c.sort_unstable.ensures.permutation c.sort_unstable.ensures.sorted
