use Rattle.std.proofs.Common.{◌≡◌, All, map, take}
use Rattle.pf_rows.specs.Small.{AreWithin, IsShort}
use Rattle.pf_batches.specs.Islands.{batch_of}
use Rattle.pf_batches.specs.Unknowns.{velocity_of}
use Rattle.pf_batches.proofs.islands.load_unknowns.Given as goal

abbrev pub invariant-loop-island : goal.invariant-loop-island
invariant-loop-island l = record {
  velocities : l.unknowns.velocities ≡ map velocity_of (batch_of (take l.island-index l.islands)).bodies;
  impulses : l.unknowns.impulses
      ≡ map (λ r. r.entry.impulses) (batch_of (take l.island-index l.islands)).rows;
  short : All (λ v. IsShort l.limit v.velocity) l.unknowns.velocities;
  small : All (AreWithin l.limit) l.unknowns.impulses;
}
