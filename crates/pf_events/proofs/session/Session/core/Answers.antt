use Rattle.std.proofs.Common.{◌≡◌, ℕ, ◌∙◌, ap, arith, subst}
use Rattle.std.proofs.lemmas.Grind.{common_steps}
use Rattle.pf_shapes.specs.Scene.{Scene}
use Rattle.pf_commands.specs.Merge.{CommandMap, IsCommandMap}
use Rattle.pf_commands.specs.Ticks.{IsFrom}
use Rattle.pf_rollback.specs.Core.{AreAllowed}
use Rattle.pf_rollback.specs.Peer.{Peer}
use Rattle.pf_events.specs.Session.{peer_in}
use Rattle.pf_events.proofs.session.Session.core.Goals as goal

pub returns-clause-allowed : goal.returns-clause-allowed
returns-clause-allowed c =
    let core = c.index-core.result.now in
    let s = c.args.self.now in
    let peer : core.peer ≡ peer_in s c.args.peer = grind (arith, common_steps) in
    let scene : core.scene ≡ s.scene = grind (arith, common_steps) in
    let commands = ap (λ (p : Peer). p.commands) peer in
    record {
      from = subst (λ (p : Peer). IsFrom p.horizon p.commands) peer
          (subst (λ (h : ℕ). IsFrom h core.peer.commands) c.horizon-horizon.ensures.value c.horizon-horizon.ensures.from);
      ranges = subst IsCommandMap (c.commands.ensures.value ∙ commands) c.len-count.ensures.range;
      allowed =
          subst (λ (m : CommandMap). AreAllowed s.scene m) commands
          (subst (λ (of : Scene). AreAllowed of core.peer.commands) scene c.commands.ensures.allowed);
    }
