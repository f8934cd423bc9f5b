use Rattle.std.proofs.Common.{◌≡◌, ℕ, ◌&&◌, ◌||◌, pos, ◌+ℤ◌, ◌≤ℤ◌}
use Rattle.pf_broad.specs.Pairs.{is_pair}
use Rattle.pf_broad.specs.Partners.{has_body}
use Rattle.pf_broad.proofs.Partnering.{is_found_below}
use Rattle.pf_broad.proofs.partners.add_from_column.Given as goal

abbrev pub invariant-loop-y : goal.invariant-loop-y
invariant-loop-y l = record {
  from : l.fn.range.bottom ≤ℤ l.y;
  upto : l.y ≤ℤ (l.fn.range.top +ℤ pos 1);
  found : (j : ℕ) → has_body l.partners.items j
      ≡ (has_body l.fn.partners.items j || (is_pair l.bounds l.i j && is_found_below l.bounds l.x l.fn.range.bottom l.y j));
}
