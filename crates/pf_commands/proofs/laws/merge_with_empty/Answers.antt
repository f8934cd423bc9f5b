use Rattle.pf_commands.proofs.Lists.{merge-empty, empty-merge}
use Rattle.pf_commands.proofs.laws.merge_with_empty.Goals as goal

pub returns-clause-right : goal.returns-clause-right
returns-clause-right c = merge-empty

pub returns-clause-left : goal.returns-clause-left
returns-clause-left c = empty-merge
