use Rattle.pf_step.proofs.Contacts.{sim_limited}
use Rattle.pf_step.proofs.laws.impulses_are_within_friction.Goals as goal

pub returns : goal.returns
returns c = λ scene commands tick limits. sim_limited scene limits commands tick
