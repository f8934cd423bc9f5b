use Rattle.pf_levels.specs.Levels.{ArePairsOf}
use Rattle.tests_tick.proofs.levels.add_grounds.Given as goal

abbrev pub invariant-loop-body : goal.invariant-loop-body
invariant-loop-body l = ArePairsOf 19 l.pairs.items
