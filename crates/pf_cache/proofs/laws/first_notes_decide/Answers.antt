use Rattle.pf_cache.proofs.Restoring.{first_noted, never_noted}
use Rattle.pf_cache.proofs.laws.first_notes_decide.Goals as goal

pub returns-clause-noted : goal.returns-clause-noted
returns-clause-noted c = first_noted

pub returns-clause-others : goal.returns-clause-others
returns-clause-others c = never_noted
