use Rattle.std.proofs.Common.{◌≡◌, take, drop, ◌++◌, map}
use Rattle.pf_islands.specs.Sleep.{at_sleep}
use Rattle.pf_islands.proofs.sleep.fall_asleep_all.Given as goal

abbrev pub invariant-loop-body : goal.invariant-loop-body
invariant-loop-body l =
    l.bodies ≡ map at_sleep (take l.body-index l.initial.bodies) ++ drop l.body-index l.initial.bodies
