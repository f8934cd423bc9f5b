use Rattle.pf_shapes.proofs.Limits.{starts_at_most_one}
use Rattle.pf_step.proofs.Rotations.{sim_keeps}
use Rattle.pf_step.proofs.laws.rotations_stay_at_most_one.Goals as goal

pub returns-clause-scenes : goal.returns-clause-scenes
returns-clause-scenes c = λ scene commands tick limits.
    sim_keeps scene commands tick (starts_at_most_one scene.fixtures scene.starts limits.started)

pub returns-clause-starts : goal.returns-clause-starts
returns-clause-starts c = sim_keeps
