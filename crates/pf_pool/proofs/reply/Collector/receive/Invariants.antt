use Rattle.std.proofs.Common.{◌≡◌}
use Rattle.pf_pool.proofs.reply.Collector.receive.Given as goal

abbrev pub invariant-loop : goal.invariant-loop
invariant-loop g l = l.self ≡ l.initial.self
