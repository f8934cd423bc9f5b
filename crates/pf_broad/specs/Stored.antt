-- How a grid stores the bodies of its cells.
use Rattle.std.specs.Prelude.{ℕ, Bool, ◌&&◌, List, [], ◌∷◌, ◌++◌, map, Option, Some, unwrap_or, if◌then◌else◌}
use Rattle.std.specs.Ordering.{int_eq}
use Rattle.std.specs.Option.{option_map}
use Rattle.std.specs.FinMap.{FinMap, from_entries}
use Rattle.indexmap.specs.IndexMap.{IndexMap, get}
use Rattle.smallvec.specs.SmallVec.{SmallVec}
use Rattle.pf_broad.specs.declared.cell.Cell.{Cell}
use Rattle.pf_broad.specs.declared.hasher.CellHasher.{CellHasher}
use Rattle.pf_broad.specs.Cell.{cell_cmp}

-- the bodies of each cell that has some
abbrev pub Cells : Type 0
Cells = IndexMap Cell (SmallVec ℕ) CellHasher

-- the cells are one
abbrev pub cell_eq : Cell → Cell → Bool
cell_eq a b = int_eq a.x b.x && int_eq a.y b.y

-- the bodies stored for a cell
abbrev pub stored_in : Cells → Cell → Option (List ℕ)
stored_in cells c = option_map (λ v. v.items) (get cell_eq cells c)

-- the bodies of a cell with one more at the end, where it lies in that cell
abbrev pub with_listed_body : Bool → ℕ → Option (List ℕ) → Option (List ℕ)
with_listed_body lies body bodies = if lies then Some (unwrap_or bodies [] ++ body ∷ []) else bodies

-- what is stored as a finite map
abbrev pub stored_cells : Cells → FinMap cell_cmp (List ℕ)
stored_cells cells = from_entries (map (λ e. (e.0, e.1.items)) cells.entries)
