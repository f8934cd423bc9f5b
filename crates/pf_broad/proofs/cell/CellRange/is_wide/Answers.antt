use Rattle.std.proofs.Common.{pos, ◌+ℤ◌, ◌-ℤ◌, w64, FitsSigned, rules}
use Rattle.std.proofs.lemmas.Int.{to_z-of_z}
use Rattle.pf_broad.proofs.cell.CellRange.is_wide.Goals as goal

pub returns : goal.returns
returns c =
    let range = c.args.self in
    let left : FitsSigned w64 range.left = search rules in
    let right : FitsSigned w64 range.right = search rules in
    let bottom : FitsSigned w64 range.bottom = search rules in
    let top : FitsSigned w64 range.top = search rules in
    let columns_less_one : FitsSigned w64 (range.right -ℤ range.left) = search rules in
    let rows_less_one : FitsSigned w64 (range.top -ℤ range.bottom) = search rules in
    let columns : FitsSigned w64 ((range.right -ℤ range.left) +ℤ pos 1) = search rules in
    let rows : FitsSigned w64 ((range.top -ℤ range.bottom) +ℤ pos 1) = search rules in
    simp to_z-of_z at c.exceeds.ensures
