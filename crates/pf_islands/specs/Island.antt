-- Islands, as Box2D 2.x's b2Island: some bodies that contacts connect, with the contacts that touch
-- them. Its contacts have its bodies by their places in the island.
use Rattle.std.specs.Prelude.{◌≡◌, ℕ, suc, ◌==◌, Bool, true, false, ◌||◌, List, [], ◌∷◌, length}
use Rattle.std.specs.Prelude.{map, filter, slice_index_or, if◌then◌else◌}
use Rattle.std.specs.List.{list_any, range_with_len}
use Rattle.pf_shapes.specs.Body.{BodyState, no_state}
use Rattle.pf_rows.specs.declared.row.Side.{Side}
use Rattle.pf_rows.specs.declared.row.Side.TheVariants.{Static, Dynamic}
use Rattle.pf_rows.specs.Row.{Row}

-- the bodies of the group of this label, by their numbers
abbrev pub group_members : List ℕ → ℕ → List ℕ
group_members labels label =
    filter (λ i. slice_index_or labels i 0 == label) (range_with_len 0 (length labels))

-- a body is one of these
abbrev pub has_number : List ℕ → ℕ → Bool
has_number numbers n = list_any (λ m. m == n) numbers

-- where a body stands among these
abbrev pub place_of : List ℕ → ℕ → ℕ
place_of [] n = 0
place_of (m ∷ numbers) n = if m == n then 0 else suc (place_of numbers n)

-- the states of these bodies
abbrev pub states_of : List ℕ → List BodyState → List BodyState
states_of numbers bodies = map (λ n. slice_index_or bodies n no_state) numbers

-- the body on a side is one of these
abbrev pub is_among : List ℕ → Side → Bool
is_among numbers Static = false
is_among numbers (Dynamic n) = has_number numbers n

-- the side of a body, by its place among these, in place of its number
abbrev pub side_among : List ℕ → Side → Side
side_among numbers Static = Static
side_among numbers (Dynamic n) = Dynamic (place_of numbers n)

-- a contact touches one of these bodies
abbrev pub touches_one : List ℕ → Row → Bool
touches_one numbers r = is_among numbers r.entry.first || is_among numbers r.entry.second

-- the contact with both sides by their places among these bodies
abbrev pub row_among : List ℕ → Row → Row
row_among numbers r = record r {
  entry = record r.entry {
    first = side_among numbers r.entry.first;
    second = side_among numbers r.entry.second;
  };
}

-- the contacts that touch these bodies, in their order
abbrev pub rows_among : List ℕ → List Row → List Row
rows_among numbers rows = map (row_among numbers) (filter (touches_one numbers) rows)

-- static, or one of these bodies
abbrev pub IsOwnSide : List ℕ → Side → Type 0
IsOwnSide numbers Static = Unit {0}
IsOwnSide numbers (Dynamic n) = has_number numbers n ≡ true

-- a contact touches none of these bodies, or no other dynamic one
abbrev pub IsOwnOrOther : List ℕ → Row → Type 0
IsOwnOrOther numbers r =
    touches_one numbers r ≡ true
    → IsOwnSide numbers r.entry.first × IsOwnSide numbers r.entry.second
