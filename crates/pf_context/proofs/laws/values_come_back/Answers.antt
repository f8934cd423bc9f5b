use Rattle.pf_context.proofs.Slots.{value_back}
use Rattle.pf_context.proofs.laws.values_come_back.Goals as goal

pub returns-clause-back : goal.returns-clause-back
returns-clause-back g c = value_back
