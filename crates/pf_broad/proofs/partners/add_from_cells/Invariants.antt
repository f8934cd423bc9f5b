use Rattle.std.proofs.Common.{◌≡◌, ℕ, ◌&&◌, ◌||◌, pos, ◌+ℤ◌, ◌≤ℤ◌}
use Rattle.pf_broad.specs.Pairs.{is_pair}
use Rattle.pf_broad.specs.Partners.{has_body}
use Rattle.pf_broad.proofs.Partnering.{is_found_left}
use Rattle.pf_broad.proofs.partners.add_from_cells.Given as goal

abbrev pub invariant-loop-x : goal.invariant-loop-x
invariant-loop-x l = record {
  from : l.fn.range.left ≤ℤ l.x;
  upto : l.x ≤ℤ (l.fn.range.right +ℤ pos 1);
  found : (j : ℕ) → has_body l.partners.items j
      ≡ (has_body l.fn.partners.items j || (is_pair l.bounds l.i j && is_found_left l.bounds l.fn.range l.x j));
}
