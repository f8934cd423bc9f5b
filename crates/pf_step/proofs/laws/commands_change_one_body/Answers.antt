use Rattle.pf_step.proofs.Commanding.{other_body, static_body}
use Rattle.pf_step.proofs.laws.commands_change_one_body.Goals as goal

pub returns-clause-unmoved : goal.returns-clause-unmoved
returns-clause-unmoved c = static_body

pub returns-clause-others : goal.returns-clause-others
returns-clause-others c = other_body
