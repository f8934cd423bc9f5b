use Rattle.pf_context.proofs.History.{none_later, past_later}
use Rattle.pf_context.proofs.laws.past_keys_stay_past.Goals as goal

pub returns-clause-past : goal.returns-clause-past
returns-clause-past g c = past_later

pub returns-clause-nothing : goal.returns-clause-nothing
returns-clause-nothing g c = none_later
