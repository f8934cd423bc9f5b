-- Batches side by side: the bodies one list after the other, and each row names its bodies by their
-- places in the whole list.
use Rattle.std.specs.Prelude.{All, ℕ, ◌+◌, List, [], ◌∷◌, ◌++◌, length, map}
use Rattle.pf_rows.specs.declared.row.Side.{Side}
use Rattle.pf_rows.specs.declared.row.Side.TheVariants.{Static, Dynamic}
use Rattle.pf_rows.specs.Row.{IsEntryOf, Row}
use Rattle.pf_solver.specs.declared.velocities.TheConstants.{ROUNDS}
use Rattle.pf_solver.specs.Impulse.{after_round, after_warm_start}
use Rattle.pf_solver.specs.Velocities.{Batch, pass, passes}

-- a side by its place behind so many bodies more in front
abbrev pub shifted_side : ℕ → Side → Side
shifted_side n Static = Static
shifted_side n (Dynamic place) = Dynamic (n + place)

-- a row whose bodies stand behind so many others
abbrev pub shifted_row : ℕ → Row → Row
shifted_row n r = record r {
  entry = record r.entry {
    first = shifted_side n r.entry.first;
    second = shifted_side n r.entry.second;
  };
}

-- two batches, one behind the other
abbrev pub beside : Batch → Batch → Batch
beside a b = record {
  bodies = a.bodies ++ b.bodies;
  rows = a.rows ++ map (shifted_row (length a.bodies)) b.rows;
}

-- several batches, one behind the other
abbrev pub side_by_side : List Batch → Batch
side_by_side [] = record { bodies = []; rows = [] }
side_by_side (b ∷ batches) = beside b (side_by_side batches)

-- each row of a batch names bodies of that batch
abbrev pub IsBatch : Batch → Type 0
IsBatch b = All (λ r. IsEntryOf (length b.bodies) r.entry) b.rows

-- a batch after the velocity phase: warm starting along the list, and the rounds
abbrev pub velocities_of : Batch → Batch
velocities_of b = passes ROUNDS after_round (pass after_warm_start b.bodies b.rows)
