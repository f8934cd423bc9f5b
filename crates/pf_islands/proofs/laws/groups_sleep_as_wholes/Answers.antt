use Rattle.pf_islands.proofs.Sleeping.{rested_reach}
use Rattle.pf_islands.proofs.laws.groups_sleep_as_wholes.Goals as goal

pub returns : goal.returns
returns c = λ s touches bodies full i b after count. rested_reach s touches bodies count full i b after
