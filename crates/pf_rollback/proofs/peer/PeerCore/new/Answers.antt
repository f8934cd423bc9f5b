use Rattle.std.proofs.Common.{ap}
use Rattle.pf_step.specs.Work.{Work}
use Rattle.pf_rollback.specs.Snapshots.{settled_world}
use Rattle.pf_rollback.proofs.Cores.{core_new, unknown_follows}
use Rattle.pf_rollback.proofs.peer.PeerCore.new.Goals as goal

pub invariant_of-result : goal.invariant_of-result
invariant_of-result c = (
  core_new _ _ _ _ c.in_ok-start.start c.requires.player c.new-2.ensures
      c.in_ok-start.ensures.value c.in_ok-start.ensures.bodies c.in_ok-snapshots.ensures.base
      c.in_ok-snapshots.ensures.worlds _ c.in_ok-snapshots.ensures.ticks,
  unknown_follows c.args.scene (settled_world c.in_ok-snapshots.snapshots) c.new-3.result
      (ap (λ (w : Work). w.is_known) c.new-3.ensures),
)
