use Rattle.pf_rollback.proofs.Worlds.{same_worlds}
use Rattle.pf_rollback.proofs.laws.same_commands_same_worlds.Goals as goal

pub returns : goal.returns
returns c = same_worlds
