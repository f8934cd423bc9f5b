use Rattle.pf_commands.proofs.Ranges.{merge_comm}
use Rattle.pf_commands.proofs.laws.merge_is_commutative.Goals as goal

pub returns : goal.returns
returns c = merge_comm
