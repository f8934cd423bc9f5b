use Rattle.pf_commands.proofs.Ranges.{AreCommands-empty}
use Rattle.pf_commands.proofs.map.CommandMap.new.Goals as goal

pub invariant_of-result : goal.invariant_of-result
invariant_of-result c = rw c.new.ensures.empty AreCommands-empty
