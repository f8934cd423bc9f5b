use Rattle.std.proofs.Common.{ap, ◌∙◌}
use Rattle.pf_commands.specs.Merge.{merge}
use Rattle.pf_commands.proofs.Merging.{merge_assoc, merge_same}
use Rattle.pf_commands.proofs.laws.merge_is_idempotent.Goals as goal

pub returns-clause-same : goal.returns-clause-same
returns-clause-same c = merge_same

pub returns-clause-again : goal.returns-clause-again
returns-clause-again c m other = merge_assoc m other other ∙ ap (merge m) (merge_same other)
