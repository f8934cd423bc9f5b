-- A cell that bounds have in common, and where a column lies.
use Rattle.std.proofs.Common.{◌≡◌, ℤ, pos, negsuc, ◌+ℤ◌, ◌*ℤ◌, ◌≤ℤ◌, ◌<ℤ◌, true, refl, arith}
use Rattle.std.specs.Int.{int_max}
use Rattle.std.proofs.lemmas.Bool.{and_parts}
use Rattle.std.proofs.lemmas.Int.{ints}
use Rattle.pf_shapes.specs.Bounds.{Bounds, IsOrdered, ranges_overlap, overlaps}
use Rattle.pf_broad.specs.declared.cell.Cell.{Cell}
use Rattle.pf_broad.specs.Cell.{cell_number, cells_of, has_cell, is_between}
use Rattle.pf_broad.specs.Partners.{share_row}
use Rattle.pf_broad.proofs.CellNumbers.{cells_in_order, share_cell-overlaps}

-- the greater of the lower ends of two ranges that overlap is in both
greater_end : (low high lo hi : ℤ) → low ≤ℤ high → lo ≤ℤ hi → ranges_overlap low high lo hi ≡ true
    → (is_between low high (int_max low lo) ≡ true) × (is_between lo hi (int_max low lo) ≡ true)
greater_end low high lo hi h k touch = (grind (arith, ints), grind (arith, ints))

pub common_cell : (a b : Bounds) → IsOrdered a → IsOrdered b → overlaps a b ≡ true → (cell : Cell) × (has_cell (cells_of a) cell ≡ true) × (has_cell (cells_of b) cell ≡ true)
common_cell a b ha hb touch =
    let r = cells_of a in
    let s = cells_of b in
    let in_a = cells_in_order a r refl ha in
    let in_b = cells_in_order b s refl hb in
    let shared = and_parts (ranges_overlap r.left r.right s.left s.right) (share_row r s) (share_cell-overlaps a b touch) in
    let column = greater_end r.left r.right s.left s.right in_a.0 in_b.0 shared.0 in
    let row = greater_end r.bottom r.top s.bottom s.top in_a.1 in_b.1 shared.1 in (
      record { x = int_max r.left s.left; y = int_max r.bottom s.bottom },
      rw (column.0, row.0) refl,
      rw (column.1, row.1) refl,
    )

pub cell_number-from : (z : ℤ) → (cell_number z *ℤ pos 67108864) ≤ℤ z
unfolding cell_number
cell_number-from (pos a) = omega (arith, ints)
cell_number-from (negsuc a) = omega (arith, ints)

pub cell_number-below : (z : ℤ) → z <ℤ ((cell_number z +ℤ pos 1) *ℤ pos 67108864)
unfolding cell_number
cell_number-below (pos a) = omega (arith, ints)
cell_number-below (negsuc a) = omega (arith, ints)
