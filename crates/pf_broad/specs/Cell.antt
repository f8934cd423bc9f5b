-- Square cells of the plane, as in the uniform grids of Ericson, Real-Time Collision Detection
-- (2005), section 7.1, and the cells in which bounds lie.
use Rattle.std.specs.Prelude.{◌≤◌, ◌^◌, ℤ, pos, ◌+ℤ◌, ◌-ℤ◌, ◌*ℤ◌, ◌≤ℤ◌, Bool, ◌&&◌, int_lt, int_le, refl}
use Rattle.std.specs.Int.{int_div_euclid}
use Rattle.std.specs.Int.RustNames.{unsigned_abs}
use Rattle.std.specs.Ordering.{int_cmp, ordering_then}
use Rattle.std.specs.declared.cmp.Ordering.{Ordering}
use Rattle.std.specs.Coded.{Coded, code_by, coded×, coded_ℤ}
use Rattle.pf_shapes.specs.Bounds.{Bounds}
use Rattle.pf_broad.specs.declared.cell.Cell.{Cell}
use Rattle.pf_broad.specs.declared.cell.CellRange.{CellRange}
use Rattle.pf_broad.specs.declared.cell.TheConstants.{CELL_SIDE, MAX_CELLS}

-- the number of the column or the row in which a coordinate lies: its floor, in sides of a cell
unfoldable pub cell_number : ℤ → ℤ
cell_number z = int_div_euclid z CELL_SIDE

-- the columns and the rows in which bounds lie
abbrev pub cells_of : Bounds → CellRange
cells_of b = record {
  left = cell_number b.low.x;
  right = cell_number b.high.x;
  bottom = cell_number b.low.y;
  top = cell_number b.high.y;
}

-- a column or a row of coordinates in range
abbrev pub IsCellNumber : ℤ → Type 0
IsCellNumber z = unsigned_abs z ≤ 2 ^ 30

-- columns and rows of coordinates in range, in order
pub record IsCellRange (r : CellRange) : Type 0 where
  pub left : IsCellNumber r.left
  pub right : IsCellNumber r.right
  pub bottom : IsCellNumber r.bottom
  pub top : IsCellNumber r.top
  pub columns : r.left ≤ℤ r.right
  pub rows : r.bottom ≤ℤ r.top

-- how many cells a range has
abbrev pub cell_count : CellRange → ℤ
cell_count r = ((r.right -ℤ r.left) +ℤ pos 1) *ℤ ((r.top -ℤ r.bottom) +ℤ pos 1)

-- bounds are wide where they lie in more than MAX_CELLS cells
unfoldable pub is_wide : Bounds → Bool
is_wide b = int_lt MAX_CELLS (cell_count (cells_of b))

-- a number is from low to high
abbrev pub is_between : ℤ → ℤ → ℤ → Bool
is_between low high z = int_le low z && int_le z high

-- a cell is one of the range
abbrev pub has_cell : CellRange → Cell → Bool
has_cell r c = is_between r.left r.right c.x && is_between r.bottom r.top c.y

-- by columns, and in a column by rows
abbrev pub cell_cmp : Cell → Cell → Ordering
cell_cmp a b = ordering_then (int_cmp a.x b.x) (int_cmp a.y b.y)

-- a cell is stored as the pair of its numbers
abbrev pub cell_code : Coded Cell
cell_code =
    code_by (ℤ × ℤ) (coded× coded_ℤ coded_ℤ) (λ c. (c.x, c.y)) (λ p. record { x = p.0; y = p.1 })
    (λ _. refl)
