use Rattle.std.proofs.Common.{◌≡◌, ◌-◌, ◌^◌, length, min, sum_by, take}
use Rattle.pf_islands.specs.Split.{Island}
use Rattle.pf_step.proofs.changes.body_count.Given as goal

abbrev pub invariant-loop-island : goal.invariant-loop-island
invariant-loop-island l =
    l.count ≡ min (sum_by (λ (i : Island). length i.numbers) (take l.island-index l.islands)) (2 ^ 64 - 1)
