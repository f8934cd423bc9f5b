use Rattle.pf_commands.proofs.Changes.{merge_one-kept}
use Rattle.pf_commands.proofs.laws.no_news_changes_nothing.Goals as goal

pub returns : goal.returns
returns c = merge_one-kept
