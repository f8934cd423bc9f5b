-- Levels of rows: no two rows of a level have a dynamic body in common, and of two rows of one body
-- the one that comes first is in the level that comes first.
use Rattle.std.specs.Prelude.{◌≡◌, ◌≢◌, ◌<◌, ◌++◌, ◌∷◌, ⊤, ℕ, All, List, [], Some, length, slice_get}
use Rattle.std.specs.List.{concat, range_with_len}
use Rattle.pf_rows.specs.declared.row.Side.{Side}
use Rattle.pf_rows.specs.Row.{AreApart, IsSide, Row}

-- the two bodies of a row
pub record RowPair : Type 0 where
  pub first : Side
  pub second : Side

abbrev pub pair_of : Row → RowPair
pair_of r = record { first = r.entry.first; second = r.entry.second }

-- each body is static or one of so many bodies
pub record IsRowPairOf (bodies : ℕ) (pair : RowPair) : Type 0 where
  pub first : IsSide bodies pair.first
  pub second : IsSide bodies pair.second

abbrev pub ArePairsOf : ℕ → List RowPair → Type 0
ArePairsOf bodies pairs = All (IsRowPairOf bodies) pairs

-- two rows have no dynamic body in common
pub record ShareNoBody (a b : RowPair) : Type 0 where
  pub firsts : AreApart a.first b.first
  pub first_second : AreApart a.first b.second
  pub second_first : AreApart a.second b.first
  pub seconds : AreApart a.second b.second

-- so it is of the rows at two places, if there are such rows
abbrev pub ShareNoBodyAt : List RowPair → ℕ → ℕ → Type 0
ShareNoBodyAt pairs p q =
    (a b : RowPair) → slice_get pairs p ≡ Some a → slice_get pairs q ≡ Some b → ShareNoBody a b

-- the same places, in any order
abbrev pub IsReordering : List ℕ → List ℕ → Type 0
IsReordering [] order = order ≡ []
IsReordering (p ∷ places) order =
    (front : List ℕ) × (back : List ℕ) × (order ≡ front ++ p ∷ back)
    × IsReordering places (front ++ back)

-- of two rows with a common dynamic body the one that comes first in the list is solved first
abbrev pub KeepsOrder : List RowPair → List ℕ → Type 0
KeepsOrder pairs [] = ⊤
KeepsOrder pairs (p ∷ order) =
    All (λ q. q < p → ShareNoBodyAt pairs q p) order × KeepsOrder pairs order

-- all rows, in an order that keeps that of the rows of each body
pub record IsOrder (pairs : List RowPair) (order : List ℕ) : Type 0 where
  pub all : IsReordering (range_with_len 0 (length pairs)) order
  pub keeps : KeepsOrder pairs order

-- places of rows of which no two have a dynamic body in common
abbrev pub IsLevel : List RowPair → List ℕ → Type 0
IsLevel pairs [] = ⊤
IsLevel pairs (p ∷ level) = All (λ q. (p ≢ q) × ShareNoBodyAt pairs p q) level × IsLevel pairs level

-- levels that are all rows, in an order that keeps that of the rows of each body
pub record AreLevels (pairs : List RowPair) (levels : List (List ℕ)) : Type 0 where
  pub order : IsOrder pairs (concat levels)
  pub apart : All (IsLevel pairs) levels
