use Rattle.std.proofs.Common.{◌≡◌, pos}
use Rattle.pf_bench.specs.Chain.{chain, add_step}
use Rattle.pf_bench.proofs.chain.add_chain.Given as goal

abbrev pub invariant-loop-i : goal.invariant-loop-i
invariant-loop-i l = l.x ≡ chain add_step (pos 0) l.i
