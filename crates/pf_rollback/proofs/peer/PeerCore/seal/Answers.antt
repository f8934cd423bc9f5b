use Rattle.std.proofs.Common.{◌≡◌, ◌≤◌, ◌-◌, refl, ap, sym, ◌∙◌, arith, rules}
use Rattle.pf_rollback.specs.Core.{count_after}
use Rattle.pf_rollback.specs.Kept.{nearest_tick}
use Rattle.pf_rollback.specs.Peer.{seal}
use Rattle.pf_rollback.specs.Snapshots.{settled_world, ticks_of}
use Rattle.pf_step.specs.Work.{Work}
use Rattle.pf_rollback.proofs.Cores.{core_sealed, count_none, unknown_follows}
use Rattle.pf_rollback.proofs.Seals.{seal_again}
use Rattle.pf_rollback.proofs.Settling.{nearest-from_horizon}
use Rattle.pf_rollback.proofs.peer.PeerCore.seal.Goals as goal

pub returns-then-tick-self : goal.returns-then-tick-self
unfolding seal
returns-then-tick-self c = record {
  peer = search rules;
  kept = search rules;
  counted = search rules;
  not_counted = (0, omega arith, refl, sym (count_none _));
  rest = search rules;
  refused = search rules;
  again = search rules;
  no_memory = search rules;
}

pub returns-then-tick-horizon : goal.returns-then-tick-horizon
unfolding seal
returns-then-tick-horizon c = record {
  peer = search rules;
  kept = search rules;
  counted = search rules;
  not_counted = (0, omega arith, refl, sym (count_none _));
  rest = search rules;
  refused = search rules;
  again = search rules;
  no_memory = search rules;
}

pub returns-then-tick-horizon-2 : goal.returns-then-tick-horizon-2
returns-then-tick-horizon-2 c =
    let kept = ticks_of c.self.inside.snapshots in
    let none : c.args.tick - nearest_tick kept c.args.tick ≡ 0 =
    omega (arith, nearest-from_horizon kept c.args.tick, c.horizon-horizon.ensures.value, c.horizon-horizon.ensures.ticks, c.if-tick-horizon-2.true) in
    record {
      peer =
          rw (← c.self.view_is) (seal_again _ _ _ (c.if-tick-horizon-2.true ∙ c.horizon-horizon.ensures.value) c.self.invariant.0.peer);
      kept = search rules;
      counted = rw (← c.self.view_is) (sym (ap (count_after c.self.inside.work.meter.ticks) none ∙ count_none _));
      not_counted = search rules;
      rest = search rules;
      refused = search rules;
      again = search rules;
      no_memory = search rules;
    }

pub invariant_of-self-2 : goal.invariant_of-self-2
invariant_of-self-2 c =
    let later : c.self.inside.snapshots.horizon ≤ c.args.tick = omega (arith, c.horizon-horizon.ensures.value, c.if-tick-horizon.false) in (
      core_sealed _ _ _ _ _ _ _ c.args.tick _ c.self.invariant.0 later c.if-tick-self.false c.in_ok-world.ensures.value c.drop_before.ensures
          c.seal.ensures.base c.seal.ensures.worlds c.seal.ensures.settled,
      unknown_follows c.self.inside.scene (settled_world c.seal.new.self) c.forget_dirty.new.self
          (ap (λ (w : Work). w.is_known) c.forget_dirty.ensures),
    )
