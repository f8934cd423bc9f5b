use Rattle.pf_context.proofs.Slots.{free_without}
use Rattle.pf_context.proofs.laws.removals_change_one_key.Goals as goal

pub returns-clause-free : goal.returns-clause-free
returns-clause-free g c = free_without
