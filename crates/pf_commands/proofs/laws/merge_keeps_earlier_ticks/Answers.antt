use Rattle.pf_commands.proofs.Ticks.{payloads_at-before}
use Rattle.pf_commands.proofs.laws.merge_keeps_earlier_ticks.Goals as goal

pub returns : goal.returns
returns c = payloads_at-before
