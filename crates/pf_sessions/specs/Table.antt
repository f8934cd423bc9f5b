-- Tables of what peers have for one another: a row for each peer, with an entry for each other
-- peer, in their order.
use Rattle.std.specs.Prelude.{◌≡◌, ℕ, zero, suc, ◌+◌, ◌-◌, List, [], ◌∷◌, All, Option, drop, length, map, nat_lt, option_and_then, slice_get, if◌then◌else◌}

-- the first entry of each row
abbrev pub first_entries : {X : Type 0} → List (List X) → List X
first_entries [] = []
first_entries ([] ∷ rows) = first_entries rows
first_entries ((x ∷ row) ∷ rows) = x ∷ first_entries rows

-- rows without their first entries
abbrev pub other_entries : {X : Type 0} → List (List X) → List (List X)
other_entries rows = map (λ row. drop 1 row) rows

-- rows with these entries in front
abbrev pub with_entries : {X : Type 0} → List X → List (List X) → List (List X)
with_entries [] rows = []
with_entries (x ∷ entries) [] = []
with_entries (x ∷ entries) (row ∷ rows) = (x ∷ row) ∷ with_entries entries rows

-- the transpose of a table with so many rows
unfoldable pub transpose_of : {X : Type 0} → ℕ → List (List X) → List (List X)
transpose_of zero rows = []
transpose_of (suc more) [] = []
transpose_of (suc more) (row ∷ rows) =
    first_entries rows ∷ with_entries row (transpose_of more (other_entries rows))

-- a table in which each peer has what the others have for it
abbrev pub transpose : {X : Type 0} → List (List X) → List (List X)
transpose rows = transpose_of (length rows) rows

-- each row has an entry for each other peer
abbrev pub IsTable : {X : Type 0} → List (List X) → Type 0
IsTable rows = All (λ row. length row + 1 ≡ length rows) rows

-- the place of another peer's entry in a peer's row, which has none for itself
abbrev pub entry_place : ℕ → ℕ → ℕ
entry_place own other = if nat_lt own other then other - 1 else other

-- what a peer has for another one
abbrev pub entry_of : {X : Type 0} → List (List X) → ℕ → ℕ → Option X
entry_of rows own other =
    option_and_then (λ row. slice_get row (entry_place own other)) (slice_get rows own)
