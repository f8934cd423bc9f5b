use Rattle.std.proofs.Common.{◌≤◌, ◌-◌, ◌/◌, drop, refl, ap, ◌∙◌}
use Rattle.circular_buffer.specs.Buffer.{keep_last}
use Rattle.pf_rollback.specs.declared.snapshots.TheConstants.{KEYFRAME_INTERVAL}
use Rattle.pf_rollback.specs.contracts.snapshots.Snapshots.{the_view}
use Rattle.pf_rollback.proofs.SealedWorlds.{IsSealing, sealed_recent, sealing_is, sealing_ticks, sealing_kept, sealing_settled}
use Rattle.pf_rollback.proofs.snapshots.Snapshots.seal.Goals as goal

later : (c : goal.After-drop-self-inside-2) → c.self.inside.horizon ≤ c.args.tick
later c = rw (← c.self.view_is) at c.requires.horizon

sealing : (c : goal.After-drop-self-inside-2)
    → IsSealing (the_view c.self.inside)
    (the_view (record { horizon = c.args.tick; base = c.args.world; keyframes = c.drop-drain.new.self.0; latest = c.drop_sealed.new.latest; recent = c.truncate_front.new.self; settled = c.max-self-inside.result }))
    c.args.tick c.args.world
sealing c =
    let s = c.self.inside in
    let keyframes =
    c.drop-drain.ensures.items ∙ c.drain.ensures.kept
    ∙ ap (λ t. drop (t / KEYFRAME_INTERVAL - s.horizon / KEYFRAME_INTERVAL) s.keyframes.items) c.min-last.ensures in
    let recent = ap (λ b. b.items) c.truncate_front.ensures ∙ ap (λ t. keep_last (s.settled - t) s.recent.items) c.min-last.ensures in
    record {
      horizon = refl;
      base = refl;
      keyframes = keyframes;
      latest = c.drop_sealed.ensures;
      recent =
          sealed_recent (the_view s) c.args.tick c.args.world s.recent.items _ _ _ (later c) c.self.invariant refl recent keyframes
          c.drop_sealed.ensures;
      settled = c.max-self-inside.ensures;
      ring = ap (λ b. b.capacity) c.truncate_front.ensures;
    }

pub invariant_of-self : goal.invariant_of-self
invariant_of-self c = sealing_is _ _ _ _ (sealing c) (later c) c.requires.limit c.self.invariant

pub returns-clause-ticks : goal.returns-clause-ticks
returns-clause-ticks c = rw (← c.self.view_is) (sealing_ticks _ _ _ _ (sealing c) (later c) c.requires.limit c.self.invariant)

pub returns-clause-settled : goal.returns-clause-settled
returns-clause-settled c = rw (← c.self.view_is) (sealing_settled _ _ _ _ (sealing c) (later c) c.requires.limit c.self.invariant)

pub returns-clause-worlds : goal.returns-clause-worlds
returns-clause-worlds c = rw (← c.self.view_is) (sealing_kept _ _ _ _ (sealing c) (later c) c.self.invariant)
