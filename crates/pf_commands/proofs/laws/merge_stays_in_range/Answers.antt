use Rattle.pf_commands.proofs.Ranges.{AreCommands-merge}
use Rattle.pf_commands.proofs.laws.merge_stays_in_range.Goals as goal

pub returns : goal.returns
returns c = AreCommands-merge
