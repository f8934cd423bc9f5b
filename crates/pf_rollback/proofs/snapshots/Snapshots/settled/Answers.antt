use Rattle.std.proofs.Common.{sym}
use Rattle.pf_rollback.proofs.KeptWorlds.{settled_is}
use Rattle.pf_rollback.proofs.Rising.{kept_ticks_rise}
use Rattle.pf_rollback.proofs.snapshots.Snapshots.settled.Goals as goal

pub returns-clause-value : goal.returns-clause-value
returns-clause-value c = rw (← c.self.view_is) (sym (settled_is _ c.self.invariant))

pub returns-clause-rising : goal.returns-clause-rising
returns-clause-rising c = kept_ticks_rise c.args.self.now
