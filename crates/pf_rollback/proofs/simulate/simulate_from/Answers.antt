use Rattle.std.proofs.Common.{◌≡◌, ◌≤◌, ◌+◌, ◌-◌, ℕ, length, ap, sym, ◌∙◌, arith}
use Rattle.pf_step.specs.Meter.{saturating_sum}
use Rattle.pf_step.specs.Work.{Work}
use Rattle.pf_step.specs.Step.{step}
use Rattle.pf_step.specs.World.{World}
use Rattle.pf_rollback.specs.Core.{count_after}
use Rattle.pf_rollback.specs.Kept.{nearest_tick}
use Rattle.pf_rollback.specs.Snapshots.{AreEmpty, kept_world, ticks_of}
use Rattle.pf_rollback.proofs.Cores.{count_more, count_none, on_err}
use Rattle.pf_rollback.proofs.Simulation.{sim_at_bodies, sim_at_more, sim_from_empty, sim_from_no_contacts}
use Rattle.pf_rollback.proofs.simulate.simulate_from.Goals as goal

pub returns-in_err-from-clause-not_counted : goal.returns-in_err-from-clause-not_counted
returns-in_err-from-clause-not_counted c =
    let count = c.args.work.now.meter.ticks in
    let none : (some : ℕ) × (some ≤ c.args.tick - nearest_tick (ticks_of c.args.snapshots.now) c.args.tick) × (count ≡ count_after count some) =
    (0, omega arith, sym (count_none count)) in
    on_err _ none

pub returns-in_err-from-clause-no_memory : goal.returns-in_err-from-clause-no_memory
returns-in_err-from-clause-no_memory c no_bodies no_contacts no_commands =
    let empty : AreEmpty c.args.snapshots.now = λ tick world there.
    let is = c.requires.worlds tick world there in (
      ap (λ (w : World). w.bodies) is ∙ sim_from_empty _ _ _ _ _ no_bodies,
      ap (λ (w : World). w.contacts) is ∙ sim_from_no_contacts _ _ _ _ _ no_bodies no_contacts,
    ) in
    let ok = c.in_err-from.ensures.no_memory empty in
    absurd cc

pub loop-at-init : goal.loop-at-init
loop-at-init c = record {
  later = c.in_ok-from.ensures.low;
  world = c.requires.worlds _ _ c.in_ok-from.ensures.kept;
  ticks =
      let from = c.in_ok-from.from in
      let none : from - from ≡ 0 = omega arith in
      sym (ap (count_after c.args.work.now.meter.ticks) none ∙ count_none _);
}

pub step_on_one_thread-requires : goal.step_on_one_thread-requires
step_on_one_thread-requires c =
    ap (λ (w : World). length w.bodies) c.loop-at.invariant.world ∙ sim_at_bodies _ _ _ _ _ c.requires.bodies

pub returns-in_err-changes-clause-no_memory : goal.returns-in_err-changes-clause-no_memory
returns-in_err-changes-clause-no_memory c no_bodies no_contacts no_commands =
    let bodies = ap (λ (w : World). w.bodies) c.loop-at.invariant.world ∙ sim_from_empty _ _ _ _ _ no_bodies in
    let ok = c.in_err-changes.ensures.no_memory bodies in
    absurd cc

pub loop-at-preserved : goal.loop-at-preserved
loop-at-preserved c =
    let s = c.args.scene.now in
    let m = c.args.commands.now in
    let kept = c.args.snapshots.now in
    let from = c.in_ok-from.from in
    record {
      later = let low = c.loop-at.invariant.later in omega arith;
      world =
          c.in_ok-changes.ensures.step.value
          ∙ ap (λ w. step s w c.deref.result.now) c.loop-at.invariant.world
          ∙ ap (step s (kept_world s m kept c.loop-at.at)) (c.deref.ensures.value ∙ c.in_ok-payloads.ensures.items)
          ∙ sym (sim_at_more s kept.base kept.horizon m c.loop-at.at c.loop-at.invariant.later);
      ticks =
          ap (λ (w : Work). w.meter.ticks) (c.lend.ensures ∙ c.in_ok-changes.ensures.step.counted)
          ∙ ap (λ n. saturating_sum n 1) c.loop-at.invariant.ticks
          ∙ sym (count_more _ (c.loop-at.at - from) (c.loop-at.at + 1 - from) (omega arith));
    }
