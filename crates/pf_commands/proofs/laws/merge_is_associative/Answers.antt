use Rattle.pf_commands.proofs.Merging.{merge_assoc}
use Rattle.pf_commands.proofs.laws.merge_is_associative.Goals as goal

pub returns : goal.returns
returns c = merge_assoc
