-- Levels across two rounds: the late levels of one round have room for rows of the next.
use Rattle.std.specs.Prelude.{◌≡◌, ℕ, ◌++◌, List, drop, map, take}
use Rattle.std.specs.List.{concat}
use Rattle.pf_levels.specs.Levels.{AreLevels, RowPair}
use Rattle.pf_levels.specs.Order.{row_pair_at, place_at}

-- levels of rows that come in this order: each row is given by its place in the list, and of two
-- rows with a body in common the one that comes first in the order is in an earlier level
pub record AreLevelsInOrder
    (pairs : List RowPair) (order : List ℕ) (levels : List (List ℕ))
    : Type 0 where
  pub numbered : List (List ℕ)
  pub are : AreLevels (map (row_pair_at pairs) order) numbered
  pub places : levels ≡ map (map (place_at order)) numbered

-- the rows of all levels but the first so many, and then those of these first ones
abbrev pub late_then_early : ℕ → List (List ℕ) → List ℕ
late_then_early early levels = concat (drop early levels) ++ concat (take early levels)
