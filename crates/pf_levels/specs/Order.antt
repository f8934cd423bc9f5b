-- Rows that are listed in another order.
use Rattle.std.specs.Prelude.{ℕ, List, slice_index_or}
use Rattle.pf_rows.specs.declared.row.Side.TheVariants.{Static}
use Rattle.pf_levels.specs.Levels.{RowPair}

-- the pair of the row at a place
abbrev pub row_pair_at : List RowPair → ℕ → RowPair
row_pair_at pairs p = slice_index_or pairs p (record { first = Static; second = Static })

-- the place of the row that has this number in an order
abbrev pub place_at : List ℕ → ℕ → ℕ
place_at order number = slice_index_or order number 0
