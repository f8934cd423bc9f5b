use Rattle.pf_commands.proofs.Lists.{put_all-merge}
use Rattle.pf_commands.proofs.laws.puts_are_a_merge.Goals as goal

pub returns : goal.returns
returns c = put_all-merge
