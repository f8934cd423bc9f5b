use Rattle.std.proofs.Common.{◌≡◌, w64, FitsSigned, rules}
use Rattle.std.proofs.lemmas.Int.{to_z-of_z}
use Rattle.pf_broad.specs.declared.cell.CellRange.{CellRange}
use Rattle.pf_broad.specs.Cell.{cells_of}
use Rattle.pf_broad.proofs.CellNumbers.{cells_in_order}
use Rattle.pf_broad.proofs.cell.CellRange.of.Goals as goal

pub returns-clause-range : goal.returns-clause-range
returns-clause-range c =
    let left : FitsSigned w64 c.cell_number.result = search rules in
    let right : FitsSigned w64 c.cell_number-2.result = search rules in
    let bottom : FitsSigned w64 c.cell_number-3.result = search rules in
    let top : FitsSigned w64 c.cell_number-4.result = search rules in
    let range : CellRange = record { left = c.cell_number.result; right = c.cell_number-2.result; bottom = c.cell_number-3.result; top = c.cell_number-4.result } in
    let is : range ≡ cells_of c.args.bounds.now = search rules in
    let order = cells_in_order c.args.bounds.now range is c.requires in
    simp to_z-of_z
    record {
      left = c.cell_number.ensures.range;
      right = c.cell_number-2.ensures.range;
      bottom = c.cell_number-3.ensures.range;
      top = c.cell_number-4.ensures.range;
      columns = order.0;
      rows = order.1;
    }
