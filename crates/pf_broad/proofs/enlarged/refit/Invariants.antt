use Rattle.std.proofs.Common.{◌≡◌, ℕ, ◌<◌, false, length, take, true}
use Rattle.pf_broad.specs.Enlarged.{contains}
use Rattle.pf_broad.specs.Pairs.{bounds_at}
use Rattle.pf_broad.specs.Partners.{has_body}
use Rattle.pf_broad.proofs.enlarged.refit.Given as goal

abbrev pub invariant-loop-number : goal.invariant-loop-number
invariant-loop-number l = record {
  each : (k : ℕ) → k < length l.bounds → has_body (take l.number-index l.left) k ≡ true → contains (bounds_at l.enlarged k) (bounds_at l.bounds k) ≡ true;
  same : (k : ℕ) → has_body (take l.number-index l.left) k ≡ false → bounds_at l.enlarged k ≡ bounds_at l.fn.enlarged k;
}
