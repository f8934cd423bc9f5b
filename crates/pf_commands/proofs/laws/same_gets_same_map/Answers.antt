use Rattle.pf_commands.proofs.Merging.{same_commands}
use Rattle.pf_commands.proofs.laws.same_gets_same_map.Goals as goal

pub returns : goal.returns
returns c = same_commands
