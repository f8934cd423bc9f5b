use Rattle.std.proofs.Common.{◌≤◌, ◌-◌, ◌/◌, take, refl, ap, sym, ◌∙◌, arith}
use Rattle.pf_rollback.specs.declared.snapshots.TheConstants.{KEYFRAME_INTERVAL}
use Rattle.pf_rollback.specs.Snapshots.{last_world}
use Rattle.pf_rollback.specs.contracts.snapshots.Snapshots.{the_view}
use Rattle.pf_rollback.proofs.KeptWorlds.{IsDropping, dropping_back, dropping_far, dropping_is, dropping_kept, dropping_lower, dropping_near, dropping_nothing, dropping_ticks, taken_some}
use Rattle.pf_rollback.proofs.RecentWorlds.{length_worlds}
use Rattle.pf_rollback.proofs.snapshots.Snapshots.drop_after.Goals as goal

-- where the settled tick is not after the tick
pub returns-then-self-tick-clause-ticks : goal.returns-then-self-tick-clause-ticks
returns-then-self-tick-clause-ticks c =
    let later = rw (← c.self.view_is) at c.requires in
    rw (← c.self.view_is) (dropping_ticks _ _ _ (dropping_nothing _ _ c.if-self-tick.true c.self.invariant) later c.self.invariant)

pub returns-then-self-tick-clause-worlds : goal.returns-then-self-tick-clause-worlds
returns-then-self-tick-clause-worlds c =
    let later = rw (← c.self.view_is) at c.requires in
    rw (← c.self.view_is) (dropping_kept _ _ _ (dropping_nothing _ _ c.if-self-tick.true c.self.invariant) later c.self.invariant)

pub unreachable-requires : goal.unreachable-requires
unreachable-requires c =
    let later = rw (← c.self.view_is) at c.requires in
    taken_some (the_view c.self.inside) c.args.tick c.self.invariant later c.if-self-tick.false (sym c.take_latest.ensures.value ∙ c.in_default.is)

-- where the tick's world is recent
later : (c : goal.After-put_back) → c.self.inside.horizon ≤ c.args.tick
later c = rw (← c.self.view_is) at c.requires

back : (c : goal.After-put_back)
    → IsDropping (the_view c.self.inside)
    (the_view (record { horizon = c.self.inside.horizon; base = c.self.inside.base; keyframes = c.truncate.new.self; latest = c.put_back.new.latest; recent = c.undo_last.new.recent; settled = c.args.tick })) c.args.tick
back c =
    let s = c.self.inside in
    dropping_back (the_view s) c.args.tick s.recent.items _ c.in-Some.world c.undo_last.new.world _ _ _ _ c.self.invariant (later c) c.if-self-tick.false
    (omega (arith, c.if-later-len.true, c.len.ensures.len)) refl (sym c.take_latest.ensures.value ∙ c.in-Some.is)
    (c.truncate.ensures.items ∙ ap (take (c.args.tick / KEYFRAME_INTERVAL - s.horizon / KEYFRAME_INTERVAL)) c.take_latest.ensures.keyframes) c.undo_last.ensures.world (ap (λ b. b.items) c.undo_last.ensures.recent)
    c.put_back.ensures (ap (λ b. b.capacity) c.undo_last.ensures.recent)

pub invariant_of-self : goal.invariant_of-self
invariant_of-self c = dropping_is _ _ _ (back c) (later c) c.self.invariant

pub returns-then-later-len-clause-ticks : goal.returns-then-later-len-clause-ticks
returns-then-later-len-clause-ticks c = rw (← c.self.view_is) (dropping_ticks _ _ _ (back c) (later c) c.self.invariant)

pub returns-then-later-len-clause-worlds : goal.returns-then-later-len-clause-worlds
returns-then-later-len-clause-worlds c = rw (← c.self.view_is) (dropping_kept _ _ _ (back c) (later c) c.self.invariant)

pub returns-then-later-len-clause-lower : goal.returns-then-later-len-clause-lower
returns-then-later-len-clause-lower c = rw (← c.self.view_is) (dropping_lower _ _ _ (back c) (later c) c.self.invariant)

pub returns-then-later-len-clause-near : goal.returns-then-later-len-clause-near
returns-then-later-len-clause-near c = rw (← c.self.view_is) (dropping_near _ _ _ (back c) (later c) c.self.invariant)

-- where it is not
later_far : (c : goal.After-drop-world-inside-else-later-len) → c.self.inside.horizon ≤ c.args.tick
later_far c = rw (← c.self.view_is) at c.requires

far : (c : goal.After-drop-world-inside-else-later-len)
    → IsDropping (the_view c.self.inside)
    (the_view (record { horizon = c.self.inside.horizon; base = c.self.inside.base; keyframes = c.truncate.new.self; latest = c.take_latest.new.latest; recent = c.clear.new.self; settled = c.max-self-inside.result })) c.args.tick
far c =
    let s = c.self.inside in
    let few = length_worlds s.recent.items (last_world s.base s.keyframes.items s.latest) in
    dropping_far (the_view s) c.args.tick _ c.in-Some.world _ _ _ _ _ c.self.invariant (later_far c) c.if-self-tick.false
    (omega (arith, c.if-later-len.false, c.len.ensures.len, few))
    (c.truncate.ensures.items ∙ ap (take (c.args.tick / KEYFRAME_INTERVAL - s.horizon / KEYFRAME_INTERVAL)) c.take_latest.ensures.keyframes)
    (ap (λ b. b.items) c.clear.ensures) c.take_latest.ensures.latest c.max-self-inside.ensures (ap (λ b. b.capacity) c.clear.ensures)

pub invariant_of-self-else-later-len : goal.invariant_of-self-else-later-len
invariant_of-self-else-later-len c = dropping_is _ _ _ (far c) (later_far c) c.self.invariant

pub returns-else-later-len-clause-ticks : goal.returns-else-later-len-clause-ticks
returns-else-later-len-clause-ticks c = rw (← c.self.view_is) (dropping_ticks _ _ _ (far c) (later_far c) c.self.invariant)

pub returns-else-later-len-clause-worlds : goal.returns-else-later-len-clause-worlds
returns-else-later-len-clause-worlds c = rw (← c.self.view_is) (dropping_kept _ _ _ (far c) (later_far c) c.self.invariant)

pub returns-else-later-len-clause-lower : goal.returns-else-later-len-clause-lower
returns-else-later-len-clause-lower c = rw (← c.self.view_is) (dropping_lower _ _ _ (far c) (later_far c) c.self.invariant)

pub returns-else-later-len-clause-near : goal.returns-else-later-len-clause-near
returns-else-later-len-clause-near c = rw (← c.self.view_is) (dropping_near _ _ _ (far c) (later_far c) c.self.invariant)
