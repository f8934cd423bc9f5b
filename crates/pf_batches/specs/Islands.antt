-- Several islands side by side as one batch: what the solver holds of them in its lists, and the
-- islands with the unknowns that it leaves.
use Rattle.std.specs.Prelude.{◌≡◌, ◌<◌, ◌≤◌, ℕ, ⊤, All, List, [], ◌∷◌, drop, length, map, take}
use Rattle.pf_rows.specs.Row.{Row}
use Rattle.pf_bundles.specs.LaneRow.{IsHeldBy, LaneRow}
use Rattle.pf_bundles.specs.Unknowns.{Unknowns}
use Rattle.pf_islands.specs.Split.{Island}
use Rattle.pf_levels.specs.Levels.{RowPair, pair_of}
use Rattle.pf_solver.specs.Alone.{batch_in, island_with}
use Rattle.pf_solver.specs.Beside.{IsBatch, shifted_row, side_by_side}
use Rattle.pf_solver.specs.Velocities.{Batch}
use Rattle.pf_bundles.specs.Bundle.{AreBundlesOf, Bundle}
use Rattle.pf_solver.specs.Order.{AreLevelsOf, DoLateAndEarly}
use Rattle.pf_batches.specs.declared.batch.TheConstants.{START_LIMIT}
use Rattle.pf_batches.specs.Unknowns.{AreAllWithin, batch_with_unknowns, batch_unknowns}

-- islands side by side
abbrev pub batch_of : List Island → Batch
batch_of islands = side_by_side (map batch_in islands)

-- each row of each island names bodies of that island
abbrev pub AreBatches : List Island → Type 0
AreBatches islands = All (λ i. IsBatch (batch_in i)) islands

-- the bodies of rows that stand behind so many other bodies
abbrev pub pairs_behind : ℕ → List Row → List RowPair
pairs_behind n rows = map (λ r. pair_of (shifted_row n r)) rows

-- lanes hold rows, one for one
abbrev pub AreHeldBy : List LaneRow → List Row → Type 0
AreHeldBy [] [] = ⊤
AreHeldBy [] (r ∷ rows) = ⊥
AreHeldBy (l ∷ lanes) [] = ⊥
AreHeldBy (l ∷ lanes) (r ∷ rows) = IsHeldBy l r × AreHeldBy lanes rows

-- the unknowns of an island, the first ones of these
abbrev pub first_unknowns : Island → Unknowns → Unknowns
first_unknowns i n = record {
  velocities = take (length i.bodies) n.velocities;
  impulses = take (length i.rows) n.impulses;
}

-- the unknowns behind so many velocities and so many impulses
abbrev pub unknowns_behind : ℕ → ℕ → Unknowns → Unknowns
unknowns_behind bodies rows n = record {
  velocities = drop bodies n.velocities;
  impulses = drop rows n.impulses;
}

-- the unknowns behind those of an island
abbrev pub other_unknowns : Island → Unknowns → Unknowns
other_unknowns i n = unknowns_behind (length i.bodies) (length i.rows) n

-- an island with the first ones of these unknowns
abbrev pub island_with_first : Unknowns → Island → Island
island_with_first n i = island_with (batch_with_unknowns (first_unknowns i n) (batch_in i)) i

-- islands with these unknowns: the first island with the first ones, the rest with the others
abbrev pub islands_with_unknowns : Unknowns → List Island → List Island
islands_with_unknowns n [] = []
islands_with_unknowns n (i ∷ islands) =
    island_with_first n i ∷ islands_with_unknowns (other_unknowns i n) islands

-- what the solver holds of a batch before its rounds: its levels, its rows in lanes, its unknowns,
-- and the bundles of the levels
pub record IsLoaded
    (b : Batch) (levels : List (List ℕ)) (lanes : List LaneRow) (n : Unknowns)
    (bundles : List Bundle)
    : Type 0 where
  pub order : AreLevelsOf b levels
  pub rows : AreHeldBy lanes b.rows
  pub unknowns : n ≡ batch_unknowns b
  pub within : AreAllWithin START_LIMIT n
  pub each : AreBundlesOf (map pair_of b.rows) lanes levels bundles

-- what the solver holds of levels across two rounds, where so many levels are early ones
pub record IsOverlapLoaded
    (pairs : List RowPair) (lanes : List LaneRow) (early_levels : ℕ) (levels across : List (List ℕ))
    (bundles : List Bundle)
    : Type 0 where
  pub early_in_levels : early_levels ≤ length levels
  pub does_late_and_early :
      DoLateAndEarly pairs (take early_levels levels) (drop early_levels levels) across
  pub within : All (All (λ p. p < length pairs)) across
  pub each : AreBundlesOf pairs lanes across bundles
