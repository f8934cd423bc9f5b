use Rattle.pf_commands.proofs.Since.{get-commands_from, IsCommandMap-from}
use Rattle.pf_commands.proofs.laws.get_of_commands_from.Goals as goal

pub returns-clause-value : goal.returns-clause-value
returns-clause-value c m tick name = get-commands_from tick m name

pub returns-clause-range : goal.returns-clause-range
returns-clause-range c m tick are = IsCommandMap-from tick m are
