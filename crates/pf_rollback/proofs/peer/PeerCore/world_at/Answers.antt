use Rattle.std.proofs.Common.{sym, ◌∙◌, arith}
use Rattle.pf_rollback.proofs.Cores.{count_none, unsealed_world}
use Rattle.pf_rollback.proofs.peer.PeerCore.world_at.Goals as goal

pub returns-then-tick-self-clause-not_counted : goal.returns-then-tick-self-clause-not_counted
returns-then-tick-self-clause-not_counted c = (0, omega arith, sym (count_none _))

pub returns-then-tick-horizon-clause-not_counted : goal.returns-then-tick-horizon-clause-not_counted
returns-then-tick-horizon-clause-not_counted c = (0, omega arith, sym (count_none _))

pub returns-clause-from_zero : goal.returns-clause-from_zero
returns-clause-from_zero c =
    rw (← c.self.view_is)
    (λ first. c.in_ok-simulate_from.ensures.value ∙ unsealed_world _ _ _ _ _ _ c.self.invariant.0 first)
