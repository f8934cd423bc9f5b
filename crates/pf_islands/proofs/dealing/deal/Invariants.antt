use Rattle.std.proofs.Common.{◌≡◌, map, take}
use Rattle.pf_islands.specs.Lone.{only_awake}
use Rattle.pf_islands.specs.Split.{active_labels}
use Rattle.pf_islands.proofs.ActiveRows.{row_at}
use Rattle.pf_islands.proofs.Filled.{full_part}
use Rattle.pf_islands.proofs.dealing.deal.Given as goal

abbrev pub invariant-loop-point : goal.invariant-loop-point
invariant-loop-point l =
    l.made.items
    ≡ map (full_part l.labels (only_awake l.numbers l.bodies) (map (row_at l.scene l.contacts) (take l.point-index l.points)))
    (active_labels l.labels (only_awake l.numbers l.bodies))
