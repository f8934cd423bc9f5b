use Rattle.std.proofs.Common.{◌≤◌, arith, length, subst}
use Rattle.pf_bundles.proofs.Seats.{taken_fit}
use Rattle.pf_bundles.proofs.bundle.Bundle.seats.Goals as goal

pub returns-clause-fits : goal.returns-clause-fits
returns-clause-fits c =
    let taken = taken_fit c.self.inside.seats in
    subst (λ b. length b.seats ≤ 4) c.self.view_is (omega (arith, taken, c.self.invariant.fits))
