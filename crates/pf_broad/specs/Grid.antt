-- The grid of the broad phase: the bodies of each cell, and those that lie in many cells.
use Rattle.std.specs.Prelude.{◌≡◌, ℕ, Bool, not, ◌&&◌, List, [], ◌∷◌, length, filter, Option, None, Some, unwrap_or, refl}
use Rattle.std.specs.List.{range_with_len}
use Rattle.std.specs.FinMap.{FinMap, get, code}
use Rattle.std.specs.Coded.{Coded, code_by, coded×, coded_list, coded_ℕ}
use Rattle.pf_shapes.specs.Bounds.{Bounds}
use Rattle.pf_broad.specs.declared.cell.Cell.{Cell}
use Rattle.pf_broad.specs.Cell.{cell_cmp, cell_code, cells_of, has_cell, is_wide}
use Rattle.pf_broad.specs.Pairs.{bounds_at}

-- the bodies of each cell that has some, and the wide bodies
pub record Grid : Type 0 where
  pub cells : FinMap cell_cmp (List ℕ)
  pub wide : List ℕ

-- a grid is stored as the pair of its parts
abbrev pub grid_code : Coded Grid
grid_code =
    code_by (FinMap cell_cmp (List ℕ) × List ℕ)
    (coded× (code cell_code (coded_list coded_ℕ)) (coded_list coded_ℕ)) (λ g. (g.cells, g.wide))
    (λ p. record { cells = p.0; wide = p.1 }) (λ _. refl)

-- a body is listed in the cells in which it lies, unless it is wide
abbrev pub is_listed : List Bounds → Cell → ℕ → Bool
is_listed bs c k = not (is_wide (bounds_at bs k)) && has_cell (cells_of (bounds_at bs k)) c

-- the bodies that are listed in a cell, in ascending order
abbrev pub members : List Bounds → Cell → List ℕ
members bs c = filter (is_listed bs c) (range_with_len 0 (length bs))

-- the wide bodies, in ascending order
abbrev pub wide : List Bounds → List ℕ
wide bs = filter (λ k. is_wide (bounds_at bs k)) (range_with_len 0 (length bs))

-- a list that a map contains only where it has an element
abbrev pub unless_empty : List ℕ → Option (List ℕ)
unless_empty [] = None
unless_empty (x ∷ xs) = Some (x ∷ xs)

-- the grid of bodies with these bounds
pub record IsGridOf (bs : List Bounds) (g : Grid) : Type 0 where
  pub cells : (c : Cell) → get g.cells c ≡ unless_empty (members bs c)
  pub wide : g.wide ≡ wide bs

-- the bodies that a grid lists in a cell
abbrev pub bodies_in : Grid → Cell → List ℕ
bodies_in g c = unwrap_or (get g.cells c) []
