-- Levels of the rows up to a place, and for each body the first level that its next row may go to.
use Rattle.std.specs.Prelude.{All, List, Some, [], length, slice_get, slice_index_or, slice_set, suc, zero, ℕ, ⊤, ◌++◌, ◌<◌, ◌∷◌, ◌≡◌, ◌≤◌}
use Rattle.std.specs.List.{concat, range_with_len}
use Rattle.pf_rows.specs.declared.row.Side.{Side}
use Rattle.pf_rows.specs.declared.row.Side.TheVariants.{Dynamic, Static}
use Rattle.pf_levels.specs.Levels.{IsLevel, IsReordering, KeepsOrder, RowPair}

-- the first level that the next row of the body on a side may go to
abbrev pub next_level : List ℕ → Side → ℕ
next_level next Static = 0
next_level next (Dynamic n) = slice_index_or next n 0

-- the body on a side has its rows in levels before its next one, this one among them
abbrev pub IsBelow : List ℕ → ℕ → Side → Type 0
IsBelow next level Static = ⊤
IsBelow next level (Dynamic n) = level < slice_index_or next n 0

-- so have both bodies of the row at a place
abbrev pub AreBelow : List RowPair → List ℕ → ℕ → ℕ → Type 0
AreBelow pairs next level p =
    (pair : RowPair) → slice_get pairs p ≡ Some pair
    → IsBelow next level pair.first × IsBelow next level pair.second

-- so it is of the rows of each level; the first one has this number
abbrev pub EachBelow : List RowPair → List ℕ → ℕ → List (List ℕ) → Type 0
EachBelow pairs next number [] = ⊤
EachBelow pairs next number (level ∷ levels) =
    All (AreBelow pairs next number) level × EachBelow pairs next (suc number) levels

-- the levels of the first rows
pub record AreLevelsUpTo
    (pairs : List RowPair) (count : ℕ) (next : List ℕ) (levels : List (List ℕ)) : Type 0 where
  pub all : IsReordering (range_with_len 0 count) (concat levels)
  pub keeps : KeepsOrder pairs (concat levels)
  pub apart : All (IsLevel pairs) levels
  pub below : EachBelow pairs next 0 levels
  pub within : All (λ n. n ≤ length levels) next

-- the levels with a place more in one of them
abbrev pub with_place : List (List ℕ) → ℕ → ℕ → List (List ℕ)
with_place [] number p = []
with_place (level ∷ levels) zero p = (level ++ p ∷ []) ∷ levels
with_place (level ∷ levels) (suc number) p = level ∷ with_place levels number p

-- the next row of the body on a side goes to this level at least
abbrev pub with_next : List ℕ → Side → ℕ → List ℕ
with_next next Static level = next
with_next next (Dynamic n) level = slice_set next n level

-- the same for both bodies of a row
abbrev pub with_both : List ℕ → RowPair → ℕ → List ℕ
with_both next pair level = with_next (with_next next pair.first level) pair.second level
