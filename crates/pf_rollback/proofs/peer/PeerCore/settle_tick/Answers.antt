use Rattle.std.proofs.Common.{◌≡◌, ◌+◌, List, length, ap, ap₂, sym, subst, refl, ◌∙◌, arith}
use Rattle.pf_commands.specs.declared.payload.Payload.{Payload}
use Rattle.pf_step.specs.Work.{Work}
use Rattle.pf_step.specs.World.{World}
use Rattle.pf_step.specs.Split.{Island}
use Rattle.pf_step.specs.Activity.{islands_of_tick}
use Rattle.pf_step.specs.Stepping.{CallsCrew}
use Rattle.pf_step.specs.Step.{step}
use Rattle.pf_commands.specs.Merge.{payloads_at}
use Rattle.pf_rollback.specs.Kept.{settled_tick, ticks_after_settling}
use Rattle.pf_rollback.specs.Snapshots.{kept_world, settled_world, ticks_of}
use Rattle.pf_rollback.proofs.Cores.{core_reserved, core_stepped, err_both, follows_reserved, kept_reserved, ok_both, ok_map, on_err, peer_reserved, same_peer, settled_none, settled_one, ticks_reserved}
use Rattle.pf_rollback.proofs.Simulation.{sim_at_bodies}
use Rattle.pf_rollback.proofs.peer.PeerCore.settle_tick.Goals as goal

pub invariant_of-self : goal.invariant_of-self
invariant_of-self g c =
    (core_reserved _ _ _ _ _ _ c.reserve.ensures.kept c.self.invariant.0, follows_reserved c.self.inside.scene c.self.inside.work c.self.inside.snapshots c.reserve.new.self c.reserve.ensures.kept c.self.invariant.1)

pub returns-in_err-reserve-clause-err : goal.returns-in_err-reserve-clause-err
returns-in_err-reserve-clause-err g c =
    rw (← c.self.view_is) (on_err _ (settled_none _ _ _ _ (peer_reserved _ _ _ c.self.inside.snapshots c.reserve.new.self c.reserve.ensures.kept) (ticks_reserved c.self.inside.snapshots c.reserve.new.self c.reserve.ensures.kept) refl))

pub invariant_of-self-in_err-payloads : goal.invariant_of-self-in_err-payloads
invariant_of-self-in_err-payloads g c =
    (core_reserved _ _ _ _ _ _ c.reserve.ensures.kept c.self.invariant.0, follows_reserved c.self.inside.scene c.self.inside.work c.self.inside.snapshots c.reserve.new.self c.reserve.ensures.kept c.self.invariant.1)

pub returns-in_err-payloads-clause-err : goal.returns-in_err-payloads-clause-err
returns-in_err-payloads-clause-err g c =
    rw (← c.self.view_is) (on_err _ (settled_none _ _ _ _ (peer_reserved _ _ _ c.self.inside.snapshots c.reserve.new.self c.reserve.ensures.kept) (ticks_reserved c.self.inside.snapshots c.reserve.new.self c.reserve.ensures.kept) refl))

pub settle-requires-clause-world : goal.settle-requires-clause-world
settle-requires-clause-world g c world there =
    let is = core_reserved _ _ _ _ _ _ c.reserve.ensures.kept c.self.invariant.0 in
    ap (λ (w : World). length w.bodies) (is.worlds _ _ there) ∙ sim_at_bodies _ _ _ _ _ is.bodies

pub settle-requires-clause-follows : goal.settle-requires-clause-follows
settle-requires-clause-follows g c = follows_reserved c.self.inside.scene c.self.inside.work c.self.inside.snapshots c.reserve.new.self c.reserve.ensures.kept c.self.invariant.1

pub settle-requires-clause-limit : goal.settle-requires-clause-limit
settle-requires-clause-limit g c =
    let next = rw (← c.self.view_is) at c.requires.next in
    let reached = rw (← c.self.view_is) at c.requires.reached in
    let same = ap settled_tick (ticks_reserved c.self.inside.snapshots c.reserve.new.self c.reserve.ensures.kept) in
    omega (arith, same, next, reached, c.self.invariant.0.peer.reached)

pub invariant_of-self-2 : goal.invariant_of-self-2
invariant_of-self-2 g c =
    let s = c.self.inside.scene in
    let is = core_reserved _ _ _ _ _ _ c.reserve.ensures.kept c.self.invariant.0 in
    let next = rw (← c.self.view_is) at c.requires.next in
    let reached = rw (← c.self.view_is) at c.requires.reached in
    let same = ap settled_tick (ticks_reserved c.self.inside.snapshots c.reserve.new.self c.reserve.ensures.kept) in
    let made =
    ap (step s (settled_world c.reserve.new.self))
    (c.deref.ensures.value ∙ c.in_ok-payloads.ensures.items ∙ ap (payloads_at c.self.inside.commands) (next ∙ sym same)) in (
      core_stepped c.settle.result _ _ _ _ _ _ _ _ is (omega (arith, same, next, reached)) c.settle.ensures.latest made
          c.settle.ensures.base c.settle.ensures.worlds c.settle.ensures.settled c.settle.ensures.err,
      c.settle.ensures.follows,
    )

pub returns-clause-settled : goal.returns-clause-settled
returns-clause-settled g c =
    let next = rw (← c.self.view_is) at c.requires.next in
    let same = ap settled_tick (ticks_reserved c.self.inside.snapshots c.reserve.new.self c.reserve.ensures.kept) in
    ok_map c.settle.result (λ settled. settled ∙ ap (λ t. t + 1) (same ∙ sym next)) c.settle.ensures.settled

pub returns-clause-ok : goal.returns-clause-ok
returns-clause-ok g c =
    let kept = c.self.inside.snapshots in
    let peer =
    sym (same_peer _ _ _ c.reserve.new.self c.settle.new.self c.settle.ensures.base)
    ∙ peer_reserved _ _ _ kept c.reserve.new.self c.reserve.ensures.kept in
    let ticks = ap (λ k. ticks_after_settling k (settled_tick k + 1)) (ticks_reserved kept c.reserve.new.self c.reserve.ensures.kept) in
    rw (← c.self.view_is)
    (ok_both c.settle.result (λ settled counted. settled_one _ _ _ _ peer (settled ∙ ticks) (ap (λ (w : Work). w.meter.ticks) counted))
    c.settle.ensures.ticks c.settle.ensures.counted)

pub returns-clause-err : goal.returns-clause-err
returns-clause-err g c =
    let kept = c.self.inside.snapshots in
    let peer =
    sym (same_peer _ _ _ c.reserve.new.self c.settle.new.self c.settle.ensures.base)
    ∙ peer_reserved _ _ _ kept c.reserve.new.self c.reserve.ensures.kept in
    let ticks = ticks_reserved kept c.reserve.new.self c.reserve.ensures.kept in
    rw (← c.self.view_is)
    (err_both c.settle.result (λ same unchanged. settled_none _ _ _ _ peer (ap ticks_of same ∙ ticks) unchanged)
    c.settle.ensures.err c.settle.ensures.not_counted)

pub returns-clause-crew : goal.returns-clause-crew
returns-clause-crew g c =
    let s = c.self.inside.scene in
    let m = c.self.inside.commands in
    let kept = c.self.inside.snapshots in
    let next = rw (← c.self.view_is) at c.requires.next in
    let same = ap settled_tick (ticks_reserved kept c.reserve.new.self c.reserve.ensures.kept) in
    let world : settled_world c.reserve.new.self ≡ kept_world s m kept c.args.tick =
    c.self.invariant.0.worlds _ _ (kept_reserved _ _ _ _ c.reserve.ensures.kept c.settle.ensures.latest)
    ∙ ap (kept_world s m kept) (same ∙ sym next) in
    let payloads : c.deref.result.now ≡ payloads_at m c.args.tick = c.deref.ensures.value ∙ c.in_ok-payloads.ensures.items in
    rw (← c.self.view_is)
    (subst (λ (islands : List Island). CallsCrew g.C.Crew.is_called g.C.Crew.may_fail islands c.args.crew.now c.settle.new.crew c.settle.result)
    (ap₂ (λ (w : World) (ps : List Payload). islands_of_tick s w ps) world payloads) c.settle.ensures.crew)
