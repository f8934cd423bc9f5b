use Rattle.std.proofs.Common.{arith}
use Rattle.std.proofs.lemmas.Grind.{common_steps}
use Rattle.pf_batches.proofs.impulse.after_impulse.Goals as goal

pub first_after-requires-clause-velocity : goal.first_after-requires-clause-velocity
first_after-requires-clause-velocity c = λ k. grind (arith, common_steps, c.requires.velocities k)

pub first_after-requires-clause-spin : goal.first_after-requires-clause-spin
first_after-requires-clause-spin c = λ k. grind (arith, common_steps, c.requires.ready k)

pub second_after-requires-clause-velocity : goal.second_after-requires-clause-velocity
second_after-requires-clause-velocity c = λ k. grind (arith, common_steps, c.requires.velocities k)

pub second_after-requires-clause-spin : goal.second_after-requires-clause-spin
second_after-requires-clause-spin c = λ k. grind (arith, common_steps, c.requires.ready k)
