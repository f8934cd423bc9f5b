use Rattle.std.proofs.Common.{◌≡◌, ◌++◌, All, map, take}
use Rattle.pf_rows.specs.Small.{AreWithin}
use Rattle.pf_batches.proofs.islands.add_impulses.Given as goal

abbrev pub invariant-loop-row : goal.invariant-loop-row
invariant-loop-row l = record {
  value : l.unknowns.impulses ≡ l.initial.unknowns.impulses ++ map (λ r. r.entry.impulses) (take l.row-index l.rows);
  size : All (AreWithin l.limit) l.initial.unknowns.impulses → All (AreWithin l.limit) l.unknowns.impulses;
  velocities : l.unknowns.velocities ≡ l.initial.unknowns.velocities;
}
