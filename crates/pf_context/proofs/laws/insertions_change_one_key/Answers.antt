use Rattle.pf_context.proofs.Slots.{count_new, value_new}
use Rattle.pf_context.proofs.laws.insertions_change_one_key.Goals as goal

pub returns-clause-value : goal.returns-clause-value
returns-clause-value g c = value_new

pub returns-clause-count : goal.returns-clause-count
returns-clause-count g c = count_new
