use Rattle.std.proofs.Common.{rules, arith}
use Rattle.pf_batches.proofs.round.after_round.Goals as goal

pub after_friction_step-requires-clause-ready : goal.after_friction_step-requires-clause-ready
after_friction_step-requires-clause-ready c = λ k. c.in_ok-pushed.ensures.ready k (c.is_ready.ensures.spins.0 (grind (arith, rules, c.if-not-is_ready.false)) k)
