use Rattle.std.proofs.Common.{take}
use Rattle.pf_bundles.specs.Bundle.{AreBundlesOf}
use Rattle.pf_bundles.proofs.bundle.load_bundles.Given as goal

abbrev pub invariant-loop-level : goal.invariant-loop-level
invariant-loop-level l = AreBundlesOf l.pairs l.rows (take l.level-index l.levels) l.bundles.items
