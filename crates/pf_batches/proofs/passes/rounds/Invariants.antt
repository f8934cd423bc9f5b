use Rattle.std.proofs.Common.{ℕ, List}
use Rattle.pf_bundles.specs.Bundle.{Bundle}
use Rattle.pf_bundles.specs.LaneRow.{LaneRow}
use Rattle.pf_bundles.specs.Unknowns.{Unknowns}
use Rattle.pf_bundles.specs.Seats.{AreAsMany}
use Rattle.pf_solver.specs.Impulse.{after_round}
use Rattle.pf_solver.specs.Order.{passes_in_levels, solved_by_levels}
use Rattle.pf_solver.specs.Velocities.{Batch}
use Rattle.pf_batches.specs.Unknowns.{AreAllWithin, AreBundlesFor, AreUnknownsAfter}
use Rattle.pf_batches.proofs.passes.rounds.Given as goal

-- the early levels are solved, and so many times the levels across two rounds
pub record AreRoundsDone
    (rows : List LaneRow) (early_bundles overlap_bundles : List Bundle) (before now : Unknowns) (limit done : ℕ) : Type 0 where
  pub value : (b after : Batch) (first across : List (List ℕ)) → AreBundlesFor b first rows early_bundles
      → AreBundlesFor b across rows overlap_bundles → AreUnknownsAfter b after before
      → AreUnknownsAfter b (passes_in_levels done across after_round (solved_by_levels first after_round after)) now
  pub within : AreAllWithin limit now
  pub many : AreAsMany before now

abbrev pub invariant-loop-round : goal.invariant-loop-round
invariant-loop-round l = AreRoundsDone l.rows l.early_bundles l.overlap_bundles l.fn.unknowns l.unknowns l.limit l._round
