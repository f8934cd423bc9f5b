use Rattle.pf_bundles.proofs.Seats.{first_cleared}
use Rattle.pf_bundles.proofs.unknowns.clear_first.Goals as goal

pub returns-clause-first : goal.returns-clause-first
returns-clause-first c =
    rw (c.none.ensures, c.none-2.ensures) (first_cleared c.args.velocities.now c.args.impulses.now c.requires.velocities c.requires.impulses)
