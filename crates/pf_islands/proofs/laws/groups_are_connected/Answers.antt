use Rattle.pf_islands.proofs.Chains.{name_least, one_name, reaches_name, reaches_one}
use Rattle.pf_islands.proofs.laws.groups_are_connected.Goals as goal

pub returns-clause-connected : goal.returns-clause-connected
returns-clause-connected c = λ s touches a b. (one_name s touches a b, reaches_one s touches a b)

pub returns-clause-member : goal.returns-clause-member
returns-clause-member c = reaches_name

pub returns-clause-least : goal.returns-clause-least
returns-clause-least c = name_least
