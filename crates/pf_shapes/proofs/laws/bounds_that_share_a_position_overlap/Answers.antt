use Rattle.pf_shapes.proofs.Sharing.{overlaps-shared_position, shared_position-overlaps}
use Rattle.pf_shapes.proofs.laws.bounds_that_share_a_position_overlap.Goals as goal

pub returns-clause-shared : goal.returns-clause-shared
returns-clause-shared c = overlaps-shared_position

pub returns-clause-found : goal.returns-clause-found
returns-clause-found c = shared_position-overlaps
