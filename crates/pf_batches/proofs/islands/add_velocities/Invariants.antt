use Rattle.std.proofs.Common.{◌≡◌, ◌++◌, All, map, take}
use Rattle.pf_rows.specs.Small.{IsShort}
use Rattle.pf_batches.specs.Unknowns.{velocity_of}
use Rattle.pf_batches.proofs.islands.add_velocities.Given as goal

abbrev pub invariant-loop-body : goal.invariant-loop-body
invariant-loop-body l = record {
  value : l.unknowns.velocities ≡ l.initial.unknowns.velocities ++ map velocity_of (take l.body-index l.bodies);
  size : All (λ v. IsShort l.limit v.velocity) l.initial.unknowns.velocities
      → All (λ v. IsShort l.limit v.velocity) l.unknowns.velocities;
  impulses : l.unknowns.impulses ≡ l.initial.unknowns.impulses;
}
