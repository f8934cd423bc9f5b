use Rattle.std.proofs.Common.{◌≡◌, ◌+◌, ◌-◌, ◌<◌, suc, take, length, ap, sym, ◌∙◌, arith}
use Rattle.std.proofs.lemmas.List.{take_all}
use Rattle.circular_buffer.specs.Buffer.{buffer, last_item}
use Rattle.pf_step.specs.Changes.{world_before}
use Rattle.pf_rollback.proofs.RecentWorlds.{last_some, last_taken, last_undone, undone_none}
use Rattle.pf_rollback.proofs.snapshots.undo_last.Goals as goal
use Rattle.pf_rollback.proofs.snapshots.undo_last.Goals.{in-Some, in_default}

pub loop-init : goal.loop-init
loop-init c =
    let cs = c.args.recent.now.items in
    record {
      world = sym (undone_none cs (length cs - 0) _ (omega arith));
      recent = ap (λ xs. buffer xs c.args.recent.now.capacity) (sym (take_all (length cs - 0) cs (omega arith)));
    }

pub loop-preserved : goal.loop-preserved
loop-preserved c =
    let cs = c.args.recent.now.items in
    let i = c.loop.counter in
    let within : i < length cs = omega arith in
    let next : i + 1 ≡ suc i = omega arith in
    let last = c.pop_back.ensures.value ∙ ap (λ b. last_item b.items) c.loop.invariant.recent in
    record {
      world = elim c.match-pop_back.branch [
        | in-Some w ↦
            w.world-is ∙ w.undo.ensures ∙ ap (world_before w.in-Some.changes) c.loop.invariant.world
            ∙ sym (last_undone cs i (i + 1) w.in-Some.changes _ within next (sym last ∙ w.in-Some.is))
        | in_default w ↦ absurd (last_some cs i within (sym last ∙ w.in_default.is))
      ];
      recent =
          c.pop_back.ensures.items
          ∙ ap (λ b. buffer (take (length b.items - 1) b.items) b.capacity) c.loop.invariant.recent
          ∙ ap (λ xs. buffer xs c.args.recent.now.capacity) (last_taken cs i (i + 1) within next);
    }
