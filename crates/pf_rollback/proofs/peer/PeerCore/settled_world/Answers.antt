use Rattle.std.proofs.Common.{Ok, ap, sym, ◌∙◌}
use Rattle.pf_rollback.proofs.Cores.{settled_shown, unsealed_world}
use Rattle.pf_rollback.proofs.peer.PeerCore.settled_world.Goals as goal

pub returns-clause-value : goal.returns-clause-value
returns-clause-value c =
    rw (← c.self.view_is)
    (settled_shown _ _ _ _ _ c.self.invariant.0 ∙ ap Ok (sym (c.self.invariant.0.worlds _ _ c.latest.ensures.kept)))

pub returns-clause-from_zero : goal.returns-clause-from_zero
returns-clause-from_zero c =
    rw (← c.self.view_is)
    (λ first. c.self.invariant.0.worlds _ _ c.latest.ensures.kept ∙ unsealed_world _ _ _ _ _ _ c.self.invariant.0 first)
