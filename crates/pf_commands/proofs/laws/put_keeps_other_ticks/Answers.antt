use Rattle.pf_commands.proofs.Ticks.{payloads_at-other}
use Rattle.pf_commands.proofs.laws.put_keeps_other_ticks.Goals as goal

pub returns : goal.returns
returns c = payloads_at-other
