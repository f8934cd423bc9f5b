-- Bundles: the rows of a level, each in a lane of its own.
use Rattle.std.specs.Prelude.{◌≡◌, ⊤, ℕ, List, [], ◌∷◌, None, Option, Some, map, slice_get, slice_index_or}
use Rattle.pf_lanes.specs.Lanes.{First, Fourth, Lane, Second, Third}
use Rattle.pf_rows.specs.declared.row.Side.{Side}
use Rattle.pf_rows.specs.declared.row.Side.TheVariants.{Static}
use Rattle.pf_levels.specs.Levels.{RowPair}
use Rattle.pf_bundles.specs.LaneRow.{LaneRow, lane_row_in, no_lane_row}
use Rattle.pf_bundles.specs.Prepared.{PreparedLanes}

-- where the unknowns of a row stand: its place among the rows, and the sides of its bodies
pub record Seat : Type 0 where
  pub place : ℕ
  pub first : Side
  pub second : Side

-- the rows of a level: what stays fixed of them, and their seats, one for each lane that has a row
pub record Bundle : Type 0 where
  pub prepared : PreparedLanes
  pub seats : List Seat

-- the number of a lane
abbrev pub lane_number : Lane → ℕ
lane_number First = 0
lane_number Second = 1
lane_number Third = 2
lane_number Fourth = 3

-- the seat of the row at a place
abbrev pub seat_at : List RowPair → ℕ → Seat
seat_at pairs p =
    let pair = slice_index_or pairs p (record { first = Static; second = Static }) in
    record { place = p; first = pair.first; second = pair.second }

-- the row at a place, if there is one; else no row
abbrev pub lane_row_or : List LaneRow → Option ℕ → LaneRow
lane_row_or rows None = no_lane_row
lane_row_or rows (Some p) = slice_index_or rows p no_lane_row

-- the row of a level that a lane holds
abbrev pub row_of_lane : List LaneRow → List ℕ → Lane → LaneRow
row_of_lane rows level k = lane_row_or rows (slice_get level (lane_number k))

-- the rows at the places of a level: each lane holds its row, and the seats are in this order
pub record IsBundleOf
    (pairs : List RowPair) (rows : List LaneRow) (level : List ℕ) (bundle : Bundle) : Type 0 where
  pub seats : bundle.seats ≡ map (seat_at pairs) level
  pub lanes : (k : Lane) → lane_row_in k bundle.prepared ≡ row_of_lane rows level k

-- a bundle of each level, in the order of the levels
abbrev pub AreBundlesOf : List RowPair → List LaneRow → List (List ℕ) → List Bundle → Type 0
AreBundlesOf pairs rows [] [] = ⊤
AreBundlesOf pairs rows (level ∷ levels) (bundle ∷ bundles) =
    IsBundleOf pairs rows level bundle × AreBundlesOf pairs rows levels bundles
AreBundlesOf pairs rows levels bundles = ⊥
