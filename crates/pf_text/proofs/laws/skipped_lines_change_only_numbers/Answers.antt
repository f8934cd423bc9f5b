use Rattle.pf_text.proofs.Outputs.{answers-skipped}
use Rattle.pf_text.proofs.laws.skipped_lines_change_only_numbers.Goals as goal

pub returns : goal.returns
returns g c = answers-skipped g.M.Machine.rules
