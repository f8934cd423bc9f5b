use Rattle.std.proofs.Common.{◌≡◌, true, take}
use Rattle.std.specs.List.{list_all}
use Rattle.pf_islands.specs.Settled.{touches_of, wakes_none}
use Rattle.pf_islands.proofs.active.all_wake_none.Given as goal

abbrev pub invariant-loop-point : goal.invariant-loop-point
invariant-loop-point l =
    list_all (wakes_none l.scene l.bodies) (touches_of (take l.point-index l.points)) ≡ true
