use Rattle.pf_commands.proofs.Since.{commands_from-merge}
use Rattle.pf_commands.proofs.laws.merge_from_a_tick.Goals as goal

pub returns : goal.returns
returns c left right tick = commands_from-merge tick left right
