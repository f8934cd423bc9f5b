use Rattle.std.proofs.Common.{◌≡◌, take, drop, ◌++◌}
use Rattle.pf_solver.specs.Bodies.{after_gravity, each_awake}
use Rattle.pf_solver.proofs.solve.fall.Given as goal

abbrev pub invariant-loop-body : goal.invariant-loop-body
invariant-loop-body l =
    l.bodies ≡ each_awake (after_gravity l.pull) (take l.body-index l.initial.bodies) ++ drop l.body-index l.initial.bodies
