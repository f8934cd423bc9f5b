use Rattle.pf_step.proofs.Undisturbed.{undisturbed_stays}
use Rattle.pf_step.proofs.laws.sleepers_stay.Goals as goal

pub returns : goal.returns
returns c = undisturbed_stays
