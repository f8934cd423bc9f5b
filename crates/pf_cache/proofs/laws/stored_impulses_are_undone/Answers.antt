use Rattle.pf_cache.proofs.Restoring.{before_rows}
use Rattle.pf_cache.proofs.laws.stored_impulses_are_undone.Goals as goal

pub returns : goal.returns
returns c = before_rows
