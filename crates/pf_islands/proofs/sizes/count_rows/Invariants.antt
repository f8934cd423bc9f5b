use Rattle.std.proofs.Common.{◌≡◌, ℕ, length, take}
use Rattle.pf_islands.proofs.Counted.{IsCounted}
use Rattle.pf_islands.proofs.sizes.count_rows.Given as goal

abbrev pub invariant-loop-point : goal.invariant-loop-point
invariant-loop-point l = record {
  counted : (label : ℕ) → IsCounted l.scene l.labels (take l.point-index l.points) l.counts label;
  long : length l.counts ≡ length l.labels;
}
