use Rattle.std.proofs.Common.{◌≡◌}
use Rattle.pf_bench.specs.Chain.{chain, div_step}
use Rattle.pf_bench.proofs.chain.div_chain.Given as goal

abbrev pub invariant-loop-i : goal.invariant-loop-i
invariant-loop-i l = l.x ≡ chain (div_step l.least l.back) l.fn.first l.i
