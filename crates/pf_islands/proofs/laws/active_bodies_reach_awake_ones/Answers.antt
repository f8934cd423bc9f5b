use Rattle.pf_islands.proofs.Sleeping.{woken_reach}
use Rattle.pf_islands.proofs.laws.active_bodies_reach_awake_ones.Goals as goal

pub returns : goal.returns
returns c = λ s touches bodies i b count. woken_reach s touches bodies count i b
