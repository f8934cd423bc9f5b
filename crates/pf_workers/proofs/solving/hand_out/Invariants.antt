use Rattle.std.proofs.Common.{◌≡◌, ℕ, ◌≤◌, [], get_or, length, map, take}
use Rattle.std.specs.Arc.{arc_value}
use Rattle.pf_workers.proofs.Answered.{part}
use Rattle.pf_workers.proofs.solving.hand_out.Given as goal

abbrev pub invariant-loop-number : goal.invariant-loop-number
invariant-loop-number l = record {
  count : length l.stacks ≡ length l.initial.stacks;
  parts : l.parts.items ≡ map (part (arc_value l.fn.scene)) (take l.number l.initial.stacks);
  left : (k : ℕ) → l.number ≤ k → get_or l.stacks k [] ≡ get_or l.initial.stacks k [];
}
