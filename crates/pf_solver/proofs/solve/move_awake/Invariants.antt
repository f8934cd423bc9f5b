use Rattle.std.proofs.Common.{◌≡◌, take, drop, ◌++◌}
use Rattle.pf_solver.specs.Bodies.{after_motion, after_timer, each_awake}
use Rattle.pf_solver.proofs.solve.move_awake.Given as goal

abbrev pub invariant-loop-body : goal.invariant-loop-body
invariant-loop-body l =
    l.bodies ≡ each_awake (λ b. after_timer (after_motion b)) (take l.body-index l.initial.bodies) ++ drop l.body-index l.initial.bodies
