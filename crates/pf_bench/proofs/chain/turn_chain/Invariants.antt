use Rattle.std.proofs.Common.{◌≡◌}
use Rattle.pf_bench.specs.Chain.{rotation_after}
use Rattle.pf_bench.proofs.chain.turn_chain.Given as goal

abbrev pub invariant-loop-i : goal.invariant-loop-i
invariant-loop-i l = l.rotation ≡ rotation_after l.i
