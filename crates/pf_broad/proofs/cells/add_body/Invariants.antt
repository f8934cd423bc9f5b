use Rattle.std.proofs.Common.{◌≡◌, ◌&&◌, pos, ◌+ℤ◌, ◌≤ℤ◌}
use Rattle.pf_broad.specs.declared.cell.Cell.{Cell}
use Rattle.pf_broad.specs.Cell.{is_between}
use Rattle.pf_broad.specs.Stored.{stored_in, with_listed_body}
use Rattle.pf_broad.proofs.Intervals.{passed}
use Rattle.pf_broad.proofs.cells.add_body.Given as goal

abbrev pub invariant-loop-x : goal.invariant-loop-x
invariant-loop-x l = record {
  from : l.fn.range.left ≤ℤ l.x;
  upto : l.x ≤ℤ (l.fn.range.right +ℤ pos 1);
  listed : (c : Cell) → stored_in l.cells c ≡ with_listed_body (passed l.fn.range.left l.x c.x && is_between l.fn.range.bottom l.fn.range.top c.y) l.body (stored_in l.fn.cells c);
}
