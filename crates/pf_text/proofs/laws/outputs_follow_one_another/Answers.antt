use Rattle.pf_text.proofs.Outputs.{answers-append}
use Rattle.pf_text.proofs.laws.outputs_follow_one_another.Goals as goal

pub returns : goal.returns
returns g c = answers-append g.M.Machine.rules
