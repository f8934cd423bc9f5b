-- How islands are filled, body by body and contact by contact.
use Rattle.std.specs.Prelude.{◌≡◌, ℕ, ◌<◌, true, List, [], ◌∷◌, ◌++◌, length, filter}
use Rattle.std.specs.Prelude.{slice_index_or}
use Rattle.std.specs.List.{range_with_len}
use Rattle.pf_shapes.specs.Body.{BodyState}
use Rattle.pf_rows.specs.declared.row.Side.{Side}
use Rattle.pf_rows.specs.declared.row.Side.TheVariants.{Static, Dynamic}
use Rattle.pf_rows.specs.Row.{IsSide, Row}
use Rattle.pf_islands.specs.Island.{group_members, place_of}
use Rattle.pf_islands.specs.Rows.{is_awake_at}
use Rattle.pf_islands.specs.Split.{Island, is_active_label}

-- how many groups that are simulated have lesser labels: the place of a group among the islands
abbrev pub island_place : List ℕ → List BodyState → ℕ → ℕ
island_place labels bodies label =
    length (filter (is_active_label labels bodies) (range_with_len 0 label))

-- each label of a group that is simulated has the place of the group's island
abbrev pub AreIslandPlaces : List ℕ → List BodyState → List ℕ → Type 0
AreIslandPlaces labels bodies island_places =
    (i : ℕ) → i < length labels → is_active_label labels bodies i ≡ true
    → slice_index_or island_places i 0 ≡ island_place labels bodies i

-- an island with one body more
abbrev pub with_island_body : ℕ → BodyState → Island → Island
with_island_body number body i = record i {
  numbers = i.numbers ++ number ∷ [];
  bodies = i.bodies ++ body ∷ [];
}

-- an island with one contact more
abbrev pub with_row : Row → Island → Island
with_row row i = record i { rows = i.rows ++ row ∷ [] }

-- the label of the group of a contact: that of its first dynamic body
abbrev pub group_of_sides : List ℕ → Side → Side → ℕ
group_of_sides labels (Dynamic n) second = slice_index_or labels n 0
group_of_sides labels Static (Dynamic n) = slice_index_or labels n 0
group_of_sides labels Static Static = 0

abbrev pub group_of_row : List ℕ → Row → ℕ
group_of_row labels r = group_of_sides labels r.entry.first r.entry.second

-- a contact of bodies that have labels, whose group has its island at a place below `islands`
pub record HasIsland (labels island_places : List ℕ) (islands : ℕ) (r : Row) : Type 0 where
  pub first : IsSide (length labels) r.entry.first
  pub second : IsSide (length labels) r.entry.second
  pub group : group_of_row labels r < length labels
  pub island_place : slice_index_or island_places (group_of_row labels r) 0 < islands

-- the side of a body, by its place in place of its number
abbrev pub placed_side : List ℕ → Side → Side
placed_side places Static = Static
placed_side places (Dynamic n) = Dynamic (slice_index_or places n 0)

-- the contact with both sides by the places of their bodies
abbrev pub placed_row : List ℕ → Row → Row
placed_row places r = record r {
  entry = record r.entry {
    first = placed_side places r.entry.first;
    second = placed_side places r.entry.second;
  };
}

-- each awake body has its place in the island of its group
abbrev pub ArePlaces : List ℕ → List BodyState → List ℕ → Type 0
ArePlaces labels bodies places =
    (i : ℕ) → i < length labels → is_awake_at bodies i ≡ true
    → slice_index_or places i 0 ≡ place_of (group_members labels (slice_index_or labels i 0)) i
