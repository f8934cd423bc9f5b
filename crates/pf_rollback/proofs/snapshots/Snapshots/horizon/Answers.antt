use Rattle.pf_rollback.proofs.KeptWorlds.{horizon_is, horizon_low, horizon_sealed}
use Rattle.pf_rollback.proofs.snapshots.Snapshots.horizon.Goals as goal

pub returns-clause-ticks : goal.returns-clause-ticks
returns-clause-ticks c = horizon_is c.args.self.now

pub returns-clause-settled : goal.returns-clause-settled
returns-clause-settled c = rw (← c.self.view_is) (horizon_low _)

pub returns-clause-sealed : goal.returns-clause-sealed
returns-clause-sealed c = rw (← c.self.view_is) (horizon_sealed _ c.self.invariant)
