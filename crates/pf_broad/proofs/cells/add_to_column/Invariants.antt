use Rattle.std.proofs.Common.{◌≡◌, ◌&&◌, pos, ◌+ℤ◌, ◌≤ℤ◌}
use Rattle.std.specs.Ordering.{int_eq}
use Rattle.pf_broad.specs.declared.cell.Cell.{Cell}
use Rattle.pf_broad.specs.Stored.{stored_in, with_listed_body}
use Rattle.pf_broad.proofs.Intervals.{passed}
use Rattle.pf_broad.proofs.cells.add_to_column.Given as goal

abbrev pub invariant-loop-y : goal.invariant-loop-y
invariant-loop-y l = record {
  from : l.fn.range.bottom ≤ℤ l.y;
  upto : l.y ≤ℤ (l.fn.range.top +ℤ pos 1);
  listed : (c : Cell) → stored_in l.cells c ≡ with_listed_body (int_eq l.x c.x && passed l.fn.range.bottom l.y c.y) l.body (stored_in l.fn.cells c);
}
