use Rattle.std.proofs.Common.{◌∙◌}
use Rattle.pf_cache.proofs.PairRanks.{before_by_rank}
use Rattle.pf_cache.proofs.carrying.has_lower_rank.Goals as goal

pub returns : goal.returns
returns c = c.is_before.ensures ∙ before_by_rank _ _ c.requires.first c.requires.second
