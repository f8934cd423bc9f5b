use Rattle.pf_shapes.proofs.Staying.{box_stays}
use Rattle.pf_shapes.proofs.Exact.{box_stays_exactly}
use Rattle.pf_shapes.proofs.laws.boxes_stay_in_their_bounds.Goals as goal

pub returns-clause-computed : goal.returns-clause-computed
returns-clause-computed c = box_stays

pub returns-clause-exact : goal.returns-clause-exact
returns-clause-exact c = box_stays_exactly
