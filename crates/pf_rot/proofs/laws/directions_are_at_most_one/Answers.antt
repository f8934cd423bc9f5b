use Rattle.pf_rot.proofs.Directions.{unit_at_most_one, turned_at_most_one}
use Rattle.pf_rot.proofs.laws.directions_are_at_most_one.Goals as goal

pub returns-clause-direction : goal.returns-clause-direction
returns-clause-direction c = unit_at_most_one

pub returns-clause-turn : goal.returns-clause-turn
returns-clause-turn c = turned_at_most_one
