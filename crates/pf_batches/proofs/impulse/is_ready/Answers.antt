use Rattle.std.specs.Int.RustNames.{unsigned_abs}
use Rattle.pf_lanes.specs.Lanes.{number_in}
use Rattle.pf_bundles.specs.Prepared.{constraint_in}
use Rattle.pf_batches.specs.Contact.{state_in}
use Rattle.pf_batches.proofs.Pushes.{is_ready}
use Rattle.pf_batches.proofs.impulse.is_ready.Goals as goal

pub returns-clause-ready : goal.returns-clause-ready
returns-clause-ready c = λ t k.
    let p = c.args.prepared.now in
    let limits = (c.spin_limit-limits.ensures.limits k).limits in
    is_ready (constraint_in k p.constraint) (state_in k p c.args.state.now) (unsigned_abs (number_in k p.spin_limit))
    limits.small limits.spins (c.spins_are_within.ensures.0 t k)
