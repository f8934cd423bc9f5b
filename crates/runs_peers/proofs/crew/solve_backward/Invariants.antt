use Rattle.std.proofs.Common.{◌≡◌, ◌-◌, take, drop, ◌++◌, length, map}
use Rattle.pf_solver.specs.Alone.{island_after_tick}
use Rattle.runs_peers.proofs.crew.solve_backward.Given as goal

abbrev pub invariant-loop-done : goal.invariant-loop-done
invariant-loop-done l =
    l.islands
    ≡ take (length l.initial.islands - l.done) l.initial.islands
    ++ map (island_after_tick l.scene) (drop (length l.initial.islands - l.done) l.initial.islands)
