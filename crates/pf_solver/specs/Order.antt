-- Rows that are solved in another order than that of their list.
use Rattle.std.specs.Prelude.{◌≡◌, ℕ, suc, zero, List, None, Option, Some, fold, map, slice_get, slice_set}
use Rattle.pf_shapes.specs.Body.{BodyState}
use Rattle.pf_rows.specs.Row.{Row}
use Rattle.pf_levels.specs.Levels.{AreLevels, IsOrder, RowPair, pair_of}
use Rattle.pf_solver.specs.Laws.{solved_at}
use Rattle.pf_solver.specs.Velocities.{Batch, Step, bodies_with, contact_state, row_with}

-- all rows of a batch, in an order that keeps that of the rows of each body
abbrev pub IsOrderOf : Batch → List ℕ → Type 0
IsOrderOf b order = IsOrder (map pair_of b.rows) order

-- a batch after the step of each row, in an order of places
abbrev pub solved_in : List ℕ → Step → Batch → Batch
solved_in order step b = fold (solved_at step) b order

-- a batch where the row at a place, solved by these bodies, and what it does to its own are stored
abbrev pub stored_where : Step → List BodyState → Batch → ℕ → Option Row → Batch
stored_where step bodies b place None = b
stored_where step bodies b place (Some r) =
    let m = step r.constraint (contact_state bodies r) in
    record { bodies = bodies_with m b.bodies r; rows = slice_set b.rows place (row_with m r) }

-- a batch after the rows of a level at once, each by the bodies and the rows as they were before
abbrev pub solved_at_once : List ℕ → Step → Batch → Batch
solved_at_once level step b =
    fold (λ now p. stored_where step b.bodies now p (slice_get b.rows p)) b level

-- levels of the rows of a batch
abbrev pub AreLevelsOf : Batch → List (List ℕ) → Type 0
AreLevelsOf b levels = AreLevels (map pair_of b.rows) levels

-- a batch after these levels, one after the other
abbrev pub solved_by_levels : List (List ℕ) → Step → Batch → Batch
solved_by_levels levels step b = fold (λ now level. solved_at_once level step now) b levels

-- so many passes, each level by level
abbrev pub passes_in_levels : ℕ → List (List ℕ) → Step → Batch → Batch
passes_in_levels zero levels step b = b
passes_in_levels (suc n) levels step b =
    solved_by_levels levels step (passes_in_levels n levels step b)

-- levels across two passes: they do to a batch what the late levels of one pass, and then the early
-- levels of the next one, do
abbrev pub DoLateAndEarly :
    List RowPair → List (List ℕ) → List (List ℕ) → List (List ℕ) → Type 0
DoLateAndEarly pairs early late across =
    (step : Step) (b : Batch) → map pair_of b.rows ≡ pairs
    → solved_by_levels across step b
    ≡ solved_by_levels early step (solved_by_levels late step b)

-- passes that overlap: the early levels of the first one, so many times the levels across two
-- passes, and the late levels of the last one
abbrev pub after_overlapping_passes :
    ℕ → List (List ℕ) → List (List ℕ) → List (List ℕ) → Step → Batch → Batch
after_overlapping_passes n early across late step b =
    solved_by_levels late step (passes_in_levels n across step (solved_by_levels early step b))
