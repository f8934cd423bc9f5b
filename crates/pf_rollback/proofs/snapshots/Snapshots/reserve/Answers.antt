use Rattle.pf_rollback.specs.contracts.snapshots.Snapshots.{the_view}
use Rattle.pf_rollback.proofs.KeptWorlds.{reserved_is}
use Rattle.pf_rollback.proofs.snapshots.Snapshots.reserve.Goals as goal

pub invariant_of-self : goal.invariant_of-self
invariant_of-self c = rw c.reserve.ensures.items (reserved_is (the_view c.self.inside) _ c.self.invariant)
