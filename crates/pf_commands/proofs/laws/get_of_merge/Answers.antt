use Rattle.pf_commands.proofs.Merging.{get-merge}
use Rattle.pf_commands.proofs.laws.get_of_merge.Goals as goal

pub returns : goal.returns
returns c = get-merge
