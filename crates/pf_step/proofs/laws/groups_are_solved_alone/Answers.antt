use Rattle.pf_step.proofs.Apart.{groups_alone}
use Rattle.pf_step.proofs.laws.groups_are_solved_alone.Goals as goal

pub returns : goal.returns
returns c = λ scene w payloads label paired. groups_alone scene w payloads label paired
