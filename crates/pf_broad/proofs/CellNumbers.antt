-- Columns and rows of coordinates.
use Rattle.std.proofs.Common.{◌≡◌, ℕ, ◌/◌, ◌≤◌, ℤ, pos, negsuc, ◌≤ℤ◌, true, not, ◌&&◌, int_lt, int_le, refl, ap, ◌∙◌, arith}
use Rattle.std.proofs.lemmas.Bool.{and_parts}
use Rattle.std.proofs.lemmas.Int.{ints}
use Rattle.pf_shapes.specs.Bounds.{Bounds, IsOrdered, overlaps, ranges_overlap}
use Rattle.pf_broad.specs.declared.cell.CellRange.{CellRange}
use Rattle.pf_broad.specs.declared.cell.TheConstants.{MAX_CELLS}
use Rattle.pf_broad.specs.Pairs.{may_touch}
use Rattle.pf_broad.specs.Partners.{share_cell}
use Rattle.pf_broad.specs.Cell.{cell_count, cell_number, cells_of, is_wide}

quotient-le : (a b : ℕ) → a ≤ b → a / 67108864 ≤ b / 67108864
quotient-le a b h = omega arith

-- a greater coordinate has no lesser column or row
pub cell_number-le : (z w : ℤ) → z ≤ℤ w → cell_number z ≤ℤ cell_number w
unfolding cell_number
cell_number-le (pos a) (pos b) h = let q = quotient-le a b (omega (arith, ints)) in omega (arith, ints, q)
cell_number-le (negsuc a) (pos b) h = omega (arith, ints)
cell_number-le (pos a) (negsuc b) h = absurd (omega (arith, ints))
cell_number-le (negsuc a) (negsuc b) h = let q = quotient-le b a (omega (arith, ints)) in omega (arith, ints, q)

-- the cells of ordered bounds are in order
pub cells_in_order : (b : Bounds) (r : CellRange) → r ≡ cells_of b → IsOrdered b → (r.left ≤ℤ r.right) × (r.bottom ≤ℤ r.top)
cells_in_order b r is ordered = rw is (cell_number-le b.low.x b.high.x ordered.x, cell_number-le b.low.y b.high.y ordered.y)

pub is_wide-cells : (b : Bounds) (r : CellRange) (d : Bounds) → r ≡ cells_of b → b ≡ d → int_lt MAX_CELLS (cell_count r) ≡ is_wide d
unfolding is_wide
is_wide-cells b r d is same = ap (λ s. int_lt MAX_CELLS (cell_count s)) (is ∙ ap cells_of same)

ranges_overlap-cells : (low high lo hi : ℤ) → ranges_overlap low high lo hi ≡ true → ranges_overlap (cell_number low) (cell_number high) (cell_number lo) (cell_number hi) ≡ true
ranges_overlap-cells low high lo hi touch =
    let parts = and_parts (int_le low hi) (int_le lo high) touch in
    let first : low ≤ℤ hi = grind (arith, ints) in
    let second : lo ≤ℤ high = grind (arith, ints) in
    let a = cell_number-le low hi first in
    let b = cell_number-le lo high second in
    grind (arith, ints)

-- bounds that overlap have a cell in common
pub share_cell-overlaps : (a b : Bounds) → overlaps a b ≡ true → share_cell (cells_of a) (cells_of b) ≡ true
unfolding overlaps
share_cell-overlaps a b touch =
    let axes = and_parts (ranges_overlap a.low.x a.high.x b.low.x b.high.x) (ranges_overlap a.low.y a.high.y b.low.y b.high.y) touch in
    let x = ranges_overlap-cells a.low.x a.high.x b.low.x b.high.x axes.0 in
    let y = ranges_overlap-cells a.low.y a.high.y b.low.y b.high.y axes.1 in
    rw (x, y) refl

pub share_cell-may_touch : (a b : Bounds) → may_touch a b ≡ true → share_cell (cells_of a) (cells_of b) ≡ true
unfolding may_touch
share_cell-may_touch a b touch = share_cell-overlaps a b ((and_parts (not (a.is_static && b.is_static)) (overlaps a b) touch).1)
