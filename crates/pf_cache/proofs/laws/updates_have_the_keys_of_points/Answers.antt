use Rattle.pf_cache.proofs.Kept.{same_keys}
use Rattle.pf_cache.proofs.laws.updates_have_the_keys_of_points.Goals as goal

pub returns : goal.returns
returns c = same_keys
