use Rattle.std.proofs.Common.{◌≡◌, ℕ, ◌<◌, length, true}
use Rattle.pf_broad.specs.Pairs.{bounds_at}
use Rattle.pf_broad.specs.Enlarged.{contains}
use Rattle.pf_broad.proofs.enlarged.all_enlarged_bounds.Given as goal

abbrev pub invariant-loop-i : goal.invariant-loop-i
invariant-loop-i l = record {
  count : length l.enlarged.items ≡ l.i;
  each : (k : ℕ) → k < l.i → contains (bounds_at l.enlarged.items k) (bounds_at l.bounds k) ≡ true;
}
