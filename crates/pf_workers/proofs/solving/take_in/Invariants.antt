use Rattle.std.proofs.Common.{◌≡◌, ℕ, ◌≤◌, None, get_or, length, map, take}
use Rattle.pf_workers.proofs.Answered.{solved}
use Rattle.pf_workers.proofs.solving.take_in.Given as goal

abbrev pub invariant-loop-number : goal.invariant-loop-number
invariant-loop-number g l = record {
  count : length l.stacks ≡ length l.initial.stacks;
  done : map solved (take l.number l.stacks) ≡ take l.number l.initial.parts;
  left : (k : ℕ) → l.number ≤ k → get_or l.parts k None ≡ get_or l.initial.parts k None;
  parts : length l.parts ≡ length l.initial.parts;
}
