use Rattle.std.proofs.Common.{◌≡◌}
use Rattle.pf_broad.specs.declared.cell.Cell.{Cell}
use Rattle.pf_broad.specs.Grid.{unless_empty}
use Rattle.pf_broad.specs.Stored.{stored_in}
use Rattle.pf_broad.proofs.Gridding.{first_members, first_wide}
use Rattle.pf_broad.proofs.grid.Grid.of_bounds.Given as goal

abbrev pub invariant-loop-i : goal.invariant-loop-i
invariant-loop-i l = record {
  cells : (c : Cell) → stored_in l.cells c ≡ unless_empty (first_members l.bounds c l.i);
  wide : l.wide.items ≡ first_wide l.bounds l.i;
}
