use Rattle.pf_batches.proofs.SideBySide.{AreStored}
use Rattle.pf_batches.proofs.islands.store_unknowns.Given as goal

abbrev pub invariant-loop-island : goal.invariant-loop-island
invariant-loop-island l = AreStored l.fn.unknowns l.initial.islands l.bodies l.rows l.island-index l.islands
