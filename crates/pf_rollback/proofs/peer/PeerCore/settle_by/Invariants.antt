use Rattle.std.proofs.Common.{◌≡◌, ◌-◌}
use Rattle.pf_rollback.specs.Core.{HasSettled}
use Rattle.pf_rollback.specs.Kept.{settled_tick}
use Rattle.pf_rollback.specs.Settling.{AreCalls}
use Rattle.pf_rollback.proofs.peer.PeerCore.settle_by.Given as goal

abbrev pub invariant-loop-tick : goal.invariant-loop-tick
invariant-loop-tick g l = record {
  has : HasSettled (l.tick - l.settled) l.fn.self l.self;
  settled : settled_tick l.self.kept ≡ l.tick;
  called : AreCalls g.C.Crew.is_called l.fn.self (l.tick - l.settled) l.fn.crew l.crew;
}
