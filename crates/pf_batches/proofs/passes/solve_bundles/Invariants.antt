use Rattle.std.proofs.Common.{ℕ, List}
use Rattle.pf_bundles.specs.Bundle.{Bundle}
use Rattle.pf_bundles.specs.LaneRow.{LaneRow}
use Rattle.pf_bundles.specs.Unknowns.{Unknowns}
use Rattle.pf_solver.specs.Velocities.{Step}
use Rattle.pf_batches.specs.Unknowns.{AreAllWithin}
use Rattle.pf_bundles.specs.Seats.{AreAsMany}
use Rattle.pf_batches.proofs.InBundles.{AreSolvedTo}
use Rattle.pf_batches.proofs.passes.solve_bundles.Given as goal

-- the bundles before this one are solved
pub record AreSolved (step : Step) (rows : List LaneRow) (bundles : List Bundle) (before now : Unknowns) (limit done : ℕ) : Type 0 where
  pub value : AreSolvedTo step rows bundles before done now
  pub within : AreAllWithin limit now
  pub many : AreAsMany before now

abbrev pub invariant-loop-bundle : goal.invariant-loop-bundle
invariant-loop-bundle g l = AreSolved g.L.ContactStep.step l.rows l.bundles l.initial.unknowns l.unknowns l.limit l.bundle-index
