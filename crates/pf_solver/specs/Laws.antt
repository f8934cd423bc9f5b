-- Words of the laws of the solver.
use Rattle.std.specs.Prelude.{ℕ, zero, suc, Option, None, Some, List, [], ◌++◌, slice_get, slice_set}
use Rattle.std.specs.List.{range_with_len}
use Rattle.pf_rows.specs.Row.{Row}
use Rattle.pf_solver.specs.Velocities.{Batch, Step, bodies_after, row_after}

-- the places from 0 on of so many rows, all of them, n times over
abbrev pub places_written : ℕ → ℕ → List ℕ
places_written zero count = []
places_written (suc n) count = places_written n count ++ range_with_len 0 count

-- the batch after the step of a row that stands at this place
abbrev pub solved_where : Step → Batch → ℕ → Option Row → Batch
solved_where step b place None = b
solved_where step b place (Some r) = record {
  bodies = bodies_after step b.bodies r;
  rows = slice_set b.rows place (row_after step b.bodies r);
}

-- the batch after the step of the row at this place, unchanged where there is none
abbrev pub solved_at : Step → Batch → ℕ → Batch
solved_at step b place = solved_where step b place (slice_get b.rows place)
