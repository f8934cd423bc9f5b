use Rattle.std.proofs.Common.{◌≡◌, pos}
use Rattle.pf_bench.specs.Chain.{chain, root_step}
use Rattle.pf_bench.proofs.chain.root_chain.Given as goal

abbrev pub invariant-loop-i : goal.invariant-loop-i
invariant-loop-i l = l.x ≡ chain root_step (pos 16777216) l.i
