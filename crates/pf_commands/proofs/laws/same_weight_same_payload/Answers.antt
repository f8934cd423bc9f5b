use Rattle.pf_commands.proofs.WeightOrder.{same_from_weight}
use Rattle.pf_commands.proofs.laws.same_weight_same_payload.Goals as goal

pub returns : goal.returns
returns c = same_from_weight
