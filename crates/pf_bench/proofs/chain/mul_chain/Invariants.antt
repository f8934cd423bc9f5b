use Rattle.std.proofs.Common.{◌≡◌}
use Rattle.pf_bench.specs.Chain.{chain, mul_step}
use Rattle.pf_bench.proofs.chain.mul_chain.Given as goal

abbrev pub invariant-loop-i : goal.invariant-loop-i
invariant-loop-i l = l.x ≡ chain (mul_step l.limit l.first) l.fn.first l.i
