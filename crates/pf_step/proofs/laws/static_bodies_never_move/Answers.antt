use Rattle.pf_step.proofs.Undisturbed.{static_start}
use Rattle.pf_step.proofs.laws.static_bodies_never_move.Goals as goal

pub returns : goal.returns
returns c = static_start
