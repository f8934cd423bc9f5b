use Rattle.std.proofs.Common.{◌≡◌, take}
use Rattle.pf_batches.specs.Unknowns.{with_velocities}
use Rattle.pf_batches.proofs.islands.store_velocities.Given as goal

abbrev pub invariant-loop-place : goal.invariant-loop-place
invariant-loop-place l = l.bodies ≡ with_velocities (take l.place l.velocities) l.initial.bodies
