use Rattle.pf_rollback.specs.Snapshots.{worlds_after}
use Rattle.pf_rollback.proofs.KeptWorlds.{start_is, start_ticks, start_worlds}
use Rattle.pf_rollback.proofs.snapshots.Snapshots.new.Goals as goal

pub invariant_of-result : goal.invariant_of-result
unfolding worlds_after
invariant_of-result c = rw c.in_ok-recent.ensures (rw c.new.ensures.items (start_is _ _ _ c.requires))

pub returns-clause-ticks : goal.returns-clause-ticks
unfolding worlds_after
returns-clause-ticks c = rw c.in_ok-recent.ensures (rw c.new.ensures.items (start_ticks _ _ _))

pub returns-clause-worlds : goal.returns-clause-worlds
unfolding worlds_after
returns-clause-worlds c = rw c.in_ok-recent.ensures (rw c.new.ensures.items (start_worlds _ _ _))
