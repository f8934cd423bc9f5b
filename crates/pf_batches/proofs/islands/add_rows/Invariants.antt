use Rattle.std.proofs.Common.{List, ◌++◌, take}
use Rattle.pf_rows.specs.Row.{Row}
use Rattle.pf_batches.specs.Islands.{AreHeldBy}
use Rattle.pf_batches.proofs.islands.add_rows.Given as goal

abbrev pub invariant-loop-row : goal.invariant-loop-row
invariant-loop-row l =
    (front : List Row) → AreHeldBy l.initial.lanes.items front
    → AreHeldBy l.lanes.items (front ++ take l.row-index l.rows)
