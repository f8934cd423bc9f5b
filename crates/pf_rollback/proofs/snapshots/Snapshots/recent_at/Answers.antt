use Rattle.std.proofs.Common.{◌≡◌, ◌+◌, ◌-◌, ◌<◌, suc, List, length, option_copied, refl, ap, sym, ◌∙◌, subst, arith}
use Rattle.pf_step.specs.Changes.{Changes, world_before}
use Rattle.pf_step.specs.World.{World}
use Rattle.pf_rollback.specs.Snapshots.{Snapshots, IsRecent, settled_world, worlds_after}
use Rattle.pf_rollback.proofs.KeptWorlds.{recent_kept, recent_undone}
use Rattle.pf_rollback.proofs.RecentWorlds.{back_some, back_undone, length_worlds, undone_none}
use Rattle.pf_rollback.proofs.snapshots.Snapshots.recent_at.Goals as goal
use Rattle.pf_rollback.proofs.snapshots.Snapshots.recent_at.Goals.{in-Some+in_ok-undo_copied, in_default}

-- the recent worlds that are seen
seen_recent : (s now : Snapshots) (cs : List Changes) → s ≡ now → s.recent ≡ worlds_after cs (settled_world s) → now.recent ≡ worlds_after cs (settled_world now)
seen_recent s now cs same is = sym (ap (λ x. x.recent) same) ∙ is ∙ ap (λ x. worlds_after cs (settled_world x)) same

pub loop-place-init : goal.loop-place-init
loop-place-init c =
    let cs = c.self.inside.recent.items in
    record { world = c.in_ok-world.ensures.value ∙ c.latest.ensures.value ∙ sym (undone_none cs (length cs - 0) _ (omega arith)) }

pub returns-in_err-undo_copied-clause-no_memory : goal.returns-in_err-undo_copied-clause-no_memory
returns-in_err-undo_copied-clause-no_memory c empty =
    let cs = c.self.inside.recent.items in
    let now = c.args.self.now in
    let i = c.loop-place.place in
    let recent = seen_recent _ now cs c.self.view_is refl in
    let count = ap length recent ∙ length_worlds cs (settled_world now) in
    let settled = ap (λ (s : Snapshots). s.settled) c.self.view_is in
    let within : i < length cs = omega (arith, count, settled, c.requires.recent, c.loop-place-test.true) in
    let next : i + 1 ≡ suc i = omega arith in
    let found = sym c.nth_back.ensures ∙ ap option_copied c.in-Some.is in
    let before = back_undone cs i (i + 1) c.in-Some.changes.now (settled_world now) within next found in
    let at : now.settled - (i + 1) + (i + 1) ≡ now.settled = omega (arith, settled, c.loop-place-test.true) in
    let further : i + 1 < length cs = omega (arith, count, settled, c.requires.recent, c.loop-place-test.true) in
    let there = recent_undone now cs (now.settled - (i + 1)) (i + 1) recent at further in
    let contacts = ap (λ (w : World). (world_before c.in-Some.changes.now w).contacts) c.loop-place.invariant.world ∙ ap (λ (w : World). w.contacts) (sym before) ∙ (empty _ _ (recent_kept now _ _ there)).1 in
    let ok = c.in_err-undo_copied.ensures.no_memory contacts in
    absurd cc

pub loop-place-preserved : goal.loop-place-preserved
loop-place-preserved c =
    let cs = c.self.inside.recent.items in
    let now = c.args.self.now in
    let i = c.loop-place.place in
    let recent = seen_recent _ now cs c.self.view_is refl in
    let count = ap length recent ∙ length_worlds cs (settled_world now) in
    let settled = ap (λ (s : Snapshots). s.settled) c.self.view_is in
    let within : i < length cs = omega (arith, count, settled, c.requires.recent, c.loop-place-test.true) in
    let next : i + 1 ≡ suc i = omega arith in
    record {
      world = elim c.match-nth_back.branch [
        | in-Some+in_ok-undo_copied w ↦
            let found = sym c.nth_back.ensures ∙ ap option_copied w.in-Some.is in
            w.world-is ∙ w.in_ok-undo_copied.ensures.value ∙ ap (world_before w.in-Some.changes.now) c.loop-place.invariant.world
            ∙ sym (back_undone cs i (i + 1) w.in-Some.changes.now (settled_world now) within next found)
        | in_default w ↦ absurd (back_some cs i within (sym c.nth_back.ensures ∙ ap option_copied w.in_default.is))
      ];
    }

pub returns-clause-value : goal.returns-clause-value
returns-clause-value c =
    let cs = c.self.inside.recent.items in
    let now = c.args.self.now in
    let i = c.loop-place.place in
    let recent = seen_recent _ now cs c.self.view_is refl in
    let count = ap length recent ∙ length_worlds cs (settled_world now) in
    let settled = ap (λ (s : Snapshots). s.settled) c.self.view_is in
    let at : c.args.tick + i ≡ now.settled = omega (arith, settled, c.requires.low, c.loop-place-test.false, c.loop-place.auto.place-end) in
    let within : i < length cs = omega (arith, count, settled, c.requires.recent, c.loop-place.auto.place-end) in
    subst (IsRecent now c.args.tick) (sym c.loop-place.invariant.world) (recent_undone now cs c.args.tick i recent at within)
