use Rattle.std.proofs.Common.{◌≡◌, length}
use Rattle.pf_bench.proofs.geometry.field_of_bodies.Given as goal

abbrev pub invariant-loop-i : goal.invariant-loop-i
invariant-loop-i l = length l.scene.fixtures ≡ l.i
