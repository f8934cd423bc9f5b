use Rattle.pf_step.proofs.Ticks.{sim_same}
use Rattle.pf_step.proofs.laws.worlds_follow_earlier_commands.Goals as goal

pub returns : goal.returns
returns c = sim_same
