use Rattle.std.proofs.Common.{take}
use Rattle.pf_batches.specs.Islands.{AreHeldBy, batch_of}
use Rattle.pf_batches.proofs.islands.load_rows.Given as goal

abbrev pub invariant-loop-island : goal.invariant-loop-island
invariant-loop-island l = AreHeldBy l.lanes.items (batch_of (take l.island-index l.islands)).rows
