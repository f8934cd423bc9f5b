use Rattle.std.proofs.Common.{◌≡◌, length, take}
use Rattle.pf_islands.proofs.Listed.{flag_after}
use Rattle.pf_islands.proofs.Noted.{AreNoted}
use Rattle.pf_islands.proofs.awake.simulated_flags.Given as goal

abbrev pub invariant-loop-number : goal.invariant-loop-number
invariant-loop-number l = record {
  count : length l.simulated.items ≡ length l.bodies;
  flags : AreNoted (length l.bodies) l.simulated.items (flag_after l.scene (take l.number-index l.numbers));
}
