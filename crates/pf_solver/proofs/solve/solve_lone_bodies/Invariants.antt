use Rattle.std.proofs.Common.{◌≡◌, take}
use Rattle.pf_solver.specs.Alone.{lone_bodies_after_tick}
use Rattle.pf_solver.proofs.solve.solve_lone_bodies.Given as goal

abbrev pub invariant-loop-number : goal.invariant-loop-number
invariant-loop-number l =
    l.bodies ≡ lone_bodies_after_tick l.pull (take l.number-index l.numbers) l.initial.bodies
