use Rattle.pf_commands.proofs.Since.{before-merge-from}
use Rattle.pf_commands.proofs.laws.ticks_make_up_the_map.Goals as goal

pub returns : goal.returns
returns c m tick = before-merge-from tick m
