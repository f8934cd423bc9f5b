use Rattle.std.proofs.Common.{◌≡◌, ◌++◌, drop, map, take}
use Rattle.std.specs.List.{zip}
use Rattle.pf_islands.specs.Marks.{marked_body}
use Rattle.pf_islands.proofs.marks.wake_marked.Given as goal

abbrev pub invariant-loop-number : goal.invariant-loop-number
invariant-loop-number l =
    l.bodies ≡ map (marked_body l.marks) (take l.number (zip l.labels l.initial.bodies)) ++ drop l.number l.initial.bodies
