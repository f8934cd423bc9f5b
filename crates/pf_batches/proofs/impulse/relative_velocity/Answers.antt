use Rattle.std.proofs.Common.{arith}
use Rattle.std.proofs.lemmas.Grind.{common_steps}
use Rattle.pf_bundles.specs.Prepared.{constraint_in}
use Rattle.pf_batches.specs.Contact.{state_in}
use Rattle.pf_solver.specs.Impulse.{relative_velocity}
use Rattle.pf_batches.proofs.Sums.{relative}
use Rattle.pf_batches.proofs.impulse.relative_velocity.Goals as goal

pub returns : goal.returns
unfolding relative_velocity
returns c = λ k.
    let m = state_in k c.args.prepared.now c.args.state.now in
    let own = constraint_in k c.args.prepared.now.constraint in
    relative m.second.velocity m.first.velocity m.second.spin m.first.spin own.second_arm own.first_arm _
    (grind (arith, common_steps, c.requires.velocities k)) (grind (arith, common_steps, c.requires.velocities k))
    (grind (arith, common_steps, c.requires.ready k)) (grind (arith, common_steps, c.requires.ready k))
    (grind (arith, common_steps, c.between.ensures k, c.product_differences-turns_x.ensures.value k))
    (grind (arith, common_steps, c.between-2.ensures k, c.product_differences-turns_y.ensures.value k))
