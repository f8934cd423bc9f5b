use Rattle.std.proofs.Common.{◌*◌, ◌/◌, arith}
use Rattle.pf_rollback.specs.declared.snapshots.TheConstants.{KEYFRAME_INTERVAL}
use Rattle.pf_rollback.specs.Snapshots.{IsKept, last_world}
use Rattle.pf_rollback.specs.contracts.snapshots.Snapshots.{the_view}
use Rattle.pf_rollback.proofs.KeptWorlds.{base_kept, nearest_base, nearest_recent, nearest_keyframe, keyframe_there, recent_kept}
use Rattle.pf_rollback.proofs.RecentWorlds.{length_worlds}
use Rattle.pf_rollback.proofs.snapshots.Snapshots.nearest.Goals as goal

pub recent_at-requires-clause-recent : goal.recent_at-requires-clause-recent
recent_at-requires-clause-recent c =
    let s = c.self.inside in
    rw (← c.self.view_is) (omega (arith, length_worlds s.recent.items (last_world s.base s.keyframes.items s.latest), c.len.ensures.len, c.if-self-last.true))

pub returns-then-self-last-clause-tick : goal.returns-then-self-last-clause-tick
returns-then-self-last-clause-tick c =
    let s = c.self.inside in
    let later = rw (← c.self.view_is) at c.requires in
    rw (← c.self.view_is)
    (nearest_recent _ _ _ later c.self.invariant c.min-last.ensures
    (omega (arith, length_worlds s.recent.items (last_world s.base s.keyframes.items s.latest), c.len.ensures.len, c.if-self-last.true)))

pub returns-then-self-last-clause-kept : goal.returns-then-self-last-clause-kept
returns-then-self-last-clause-kept c = recent_kept _ _ _ c.in_ok-recent_at.ensures.value

pub returns-in_err-try_clone-clause-no_memory : goal.returns-in_err-try_clone-clause-no_memory
returns-in_err-try_clone-clause-no_memory c =
    rw (← c.self.view_is)
    (λ empty.
    let none = empty _ _ (base_kept _) in
    let ok = c.in_err-try_clone.ensures.no_memory none.0 none.1 in
    absurd cc)

pub returns-then-count-eq0-clause-tick : goal.returns-then-count-eq0-clause-tick
returns-then-count-eq0-clause-tick c =
    let s = c.self.inside in
    let later = rw (← c.self.view_is) at c.requires in
    rw (← c.self.view_is)
    (nearest_base _ _ c.min-last.result later c.self.invariant c.min-last.ensures
    (omega (arith, length_worlds s.recent.items (last_world s.base s.keyframes.items s.latest), c.len.ensures.len, c.if-self-last.false))
    (omega (arith, c.if-count-eq0.true)))

pub returns-then-count-eq0-clause-kept : goal.returns-then-count-eq0-clause-kept
returns-then-count-eq0-clause-kept c = rw (← c.self.view_is, c.in_ok-try_clone.ensures.value) (base_kept _)

pub returns-in_err-world-clause-no_memory : goal.returns-in_err-world-clause-no_memory
returns-in_err-world-clause-no_memory c =
    let there : IsKept (the_view c.self.inside) (c.min-last.result / KEYFRAME_INTERVAL * KEYFRAME_INTERVAL) c.index.result.now =
    keyframe_there _ _ _ _ c.self.invariant (omega arith) (omega arith) c.index.ensures in
    rw (← c.self.view_is)
    (λ empty.
    let none = empty _ _ there in
    let ok = c.in_err-world.ensures.no_memory none.0 none.1 in
    absurd cc)

pub returns-clause-tick : goal.returns-clause-tick
returns-clause-tick c =
    let s = c.self.inside in
    let later = rw (← c.self.view_is) at c.requires in
    rw (← c.self.view_is)
    (nearest_keyframe _ _ c.min-last.result later c.self.invariant c.min-last.ensures
    (omega (arith, length_worlds s.recent.items (last_world s.base s.keyframes.items s.latest), c.len.ensures.len, c.if-self-last.false))
    (omega arith))

pub returns-clause-kept : goal.returns-clause-kept
returns-clause-kept c =
    rw (← c.self.view_is, c.in_ok-world.ensures.value)
    (keyframe_there _ _ _ _ c.self.invariant (omega arith) (omega arith) c.index.ensures)
