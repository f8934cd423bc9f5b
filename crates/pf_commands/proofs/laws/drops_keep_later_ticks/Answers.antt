use Rattle.pf_commands.proofs.Since.{payloads_at-from}
use Rattle.pf_commands.proofs.laws.drops_keep_later_ticks.Goals as goal

pub returns : goal.returns
returns c m tick later = payloads_at-from tick m later
