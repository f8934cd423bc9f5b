-- How the pairs of a body are found: by the cells in which it lies.
use Rattle.std.specs.Prelude.{◌≡◌, ℕ, ◌<◌, ℤ, Bool, not, ◌&&◌, ◌==◌, List, length, filter, All, nat_lt}
use Rattle.std.specs.List.{list_any, range_with_len}
use Rattle.pf_shapes.specs.Bounds.{Bounds, ranges_overlap}
use Rattle.pf_broad.specs.declared.cell.CellRange.{CellRange}
use Rattle.pf_broad.specs.Pairs.{bounds_at}
use Rattle.pf_broad.specs.Cell.{cells_of, is_between, is_wide}

-- a list of bodies has this one
abbrev pub has_body : List ℕ → ℕ → Bool
has_body bodies j = list_any (λ k. k == j) bodies

-- all are bodies with bounds
abbrev pub AreBodies : List Bounds → List ℕ → Type 0
AreBodies bs bodies = All (λ k. k < length bs) bodies

-- they are such bodies in ascending order, each once
abbrev pub AreInOrder : List Bounds → List ℕ → Type 0
AreInOrder bs bodies = bodies ≡ filter (has_body bodies) (range_with_len 0 (length bs))

-- two ranges have a row in common
abbrev pub share_row : CellRange → CellRange → Bool
share_row r s = ranges_overlap r.bottom r.top s.bottom s.top

-- two ranges have a cell in common
abbrev pub share_cell : CellRange → CellRange → Bool
share_cell r s = ranges_overlap r.left r.right s.left s.right && share_row r s

-- a body is listed in a cell of the range that is in column x
abbrev pub is_found_in_column : List Bounds → ℤ → CellRange → ℕ → Bool
is_found_in_column bs x r j =
    let s = cells_of (bounds_at bs j) in
    nat_lt j (length bs)
    && (not (is_wide (bounds_at bs j)) && (is_between s.left s.right x && share_row r s))

-- a body is listed in a cell of the range
abbrev pub is_found : List Bounds → CellRange → ℕ → Bool
is_found bs r j =
    nat_lt j (length bs)
    && (not (is_wide (bounds_at bs j)) && share_cell r (cells_of (bounds_at bs j)))
