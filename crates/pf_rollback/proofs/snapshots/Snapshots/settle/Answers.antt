use Rattle.std.proofs.Common.{◌≡◌, ◌+◌, length, subst, ap, ap₂, refl, sym, ◌∙◌, arith}
use Rattle.pf_step.specs.Activity.{islands_of_tick}
use Rattle.pf_step.specs.Step.{step}
use Rattle.pf_step.specs.Stepping.{FailsBy}
use Rattle.pf_step.specs.Work.{KnowsWorld, Work}
use Rattle.pf_step.specs.World.{World}
use Rattle.pf_rollback.specs.Snapshots.{IsSnapshots, last_world, settled_world}
use Rattle.pf_rollback.specs.contracts.snapshots.Snapshots.{the_view}
use Rattle.pf_rollback.proofs.KeptWorlds.{IsKeeping, settled_is, keeping_is, keeping_recent, keeping_ticks, keeping_settled, keeping_kept, placed_world, settled_tick_kept}
use Rattle.pf_rollback.proofs.snapshots.Snapshots.settle.Goals as goal

pub step_next-requires-clause-world : goal.step_next-requires-clause-world
step_next-requires-clause-world g c =
    let s = c.self.inside in
    let now = c.args.self.now in
    let latest : c.in_ok-world.world ≡ settled_world now =
    c.in_ok-world.ensures.value ∙ ap (λ ks. last_world s.base ks s.latest) c.deref.ensures.value ∙ ap settled_world c.self.view_is in
    ap (λ (w : World). length w.bodies) latest ∙ c.requires.world _ (settled_tick_kept now (subst IsSnapshots c.self.view_is c.self.invariant))

keeping : (g : _) (c : goal.After-place g)
    → IsKeeping (the_view c.self.inside)
    (the_view (record { horizon = c.self.inside.horizon; base = c.self.inside.base; keyframes = c.place.new.keyframes; latest = c.place.new.latest; recent = c.push_back.new.self; settled = c.self.inside.settled + 1 })) c.step_next.new.world
keeping g c =
    let s = c.self.inside in
    record {
      horizon = refl;
      base = refl;
      keyframes = c.place.ensures.keyframes;
      latest = c.place.ensures.latest;
      recent =
          keeping_recent s.recent.capacity s.recent.items _ c.in-Ok.changes s.base c.in_ok-world.world c.step_next.new.world s.keyframes.items _ s.latest _ _
          (ap (λ b. b.items) c.push_back.ensures.items) c.in-Ok.ensures.step.before
          (c.in_ok-world.ensures.value ∙ ap (λ ks. last_world s.base ks s.latest) c.deref.ensures.value) c.place.ensures.keyframes
          c.place.ensures.latest;
      settled = refl;
      ring = ap (λ b. b.capacity) c.push_back.ensures.items;
    }

pub invariant_of-self-in-Ok : goal.invariant_of-self-in-Ok
invariant_of-self-in-Ok g c =
    let limit = rw (← c.self.view_is) at c.requires.limit in
    keeping_is _ _ c.step_next.new.world (keeping g c) c.self.invariant (omega (arith, settled_is _ c.self.invariant, limit))

pub returns-in-Ok-clause-ticks : goal.returns-in-Ok-clause-ticks
returns-in-Ok-clause-ticks g c =
    let limit = rw (← c.self.view_is) at c.requires.limit in
    rw (← c.self.view_is) (keeping_ticks _ _ _ (keeping g c) c.self.invariant (omega (arith, settled_is _ c.self.invariant, limit)))

pub returns-in-Ok-clause-settled : goal.returns-in-Ok-clause-settled
returns-in-Ok-clause-settled g c =
    let limit = rw (← c.self.view_is) at c.requires.limit in
    rw (← c.self.view_is) (keeping_settled _ _ _ (keeping g c) c.self.invariant (omega (arith, settled_is _ c.self.invariant, limit)))

pub returns-in-Ok-clause-worlds : goal.returns-in-Ok-clause-worlds
returns-in-Ok-clause-worlds g c =
    let s = c.self.inside in
    let latest = c.in_ok-world.ensures.value ∙ ap (λ ks. last_world s.base ks s.latest) c.deref.ensures.value in
    let next = c.in-Ok.ensures.step.value ∙ ap (λ w. step c.args.scene.now w c.args.payloads.now) latest in
    rw (← c.self.view_is) (keeping_kept _ _ _ _ (keeping g c) c.self.invariant next)

pub returns-in-Ok-clause-follows : goal.returns-in-Ok-clause-follows
returns-in-Ok-clause-follows g c =
    let s = c.self.inside in
    let is : last_world s.base c.place.new.keyframes.items c.place.new.latest ≡ c.step_next.new.world =
    ap₂ (λ ks o. last_world s.base ks o) c.place.ensures.keyframes c.place.ensures.latest ∙ placed_world s.base _ s.keyframes.items _ in
    subst (λ (x : World × Work). KnowsWorld c.args.scene.now x.0 x.1) (λ i. (sym is i, sym c.lend.ensures i)) c.in-Ok.ensures.step.follows

pub returns-in_err-world-clause-latest : goal.returns-in_err-world-clause-latest
returns-in_err-world-clause-latest g c = settled_tick_kept c.args.self.now (subst IsSnapshots c.self.view_is c.self.invariant)

pub returns-in-Ok-clause-latest : goal.returns-in-Ok-clause-latest
returns-in-Ok-clause-latest g c = settled_tick_kept c.args.self.now (subst IsSnapshots c.self.view_is c.self.invariant)

pub returns-in-Err-clause-latest : goal.returns-in-Err-clause-latest
returns-in-Err-clause-latest g c = settled_tick_kept c.args.self.now (subst IsSnapshots c.self.view_is c.self.invariant)

pub returns-in-Ok-clause-crew : goal.returns-in-Ok-clause-crew
returns-in-Ok-clause-crew g c =
    let s = c.self.inside in
    let latest : c.in_ok-world.world ≡ settled_world c.args.self.now =
    c.in_ok-world.ensures.value ∙ ap (λ ks. last_world s.base ks s.latest) c.deref.ensures.value ∙ ap settled_world c.self.view_is in
    subst (λ (w : World). g.C.Crew.is_called c.args.crew.now (islands_of_tick c.args.scene.now w c.args.payloads.now) c.step_next.new.crew)
    latest c.in-Ok.ensures.crew

pub returns-in-Err-clause-crew : goal.returns-in-Err-clause-crew
returns-in-Err-clause-crew g c =
    let s = c.self.inside in
    let latest : c.in_ok-world.world ≡ settled_world c.args.self.now =
    c.in_ok-world.ensures.value ∙ ap (λ ks. last_world s.base ks s.latest) c.deref.ensures.value ∙ ap settled_world c.self.view_is in
    subst (λ (w : World). FailsBy g.C.Crew.may_fail c.args.crew.now (islands_of_tick c.args.scene.now w c.args.payloads.now) c.in-Err.error c.step_next.new.crew)
    latest c.in-Err.ensures.crew
