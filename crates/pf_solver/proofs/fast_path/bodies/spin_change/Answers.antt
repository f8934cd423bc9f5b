use Rattle.pf_solver.proofs.Sizes.{turn_of}
use Rattle.pf_solver.proofs.fast_path.bodies.spin_change.Goals as goal

pub inertia_by_turn-requires : goal.inertia_by_turn-requires
inertia_by_turn-requires c =
    turn_of _ _ _ _ _ _ _ _ c.arm.view_is c.impulse.view_is
    c.requires.mass c.requires.arm c.requires.impulse
    c.arm_by_impulse-first.ensures.bound c.arm_by_impulse-second.ensures.bound c.unchecked_sub.ensures.bound
