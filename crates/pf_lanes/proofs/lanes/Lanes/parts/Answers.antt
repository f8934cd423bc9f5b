use Rattle.pf_lanes.proofs.Holding.{parts_are_whole}
use Rattle.pf_lanes.proofs.lanes.Lanes.parts.Goals as goal

pub invariant_of-result : goal.invariant_of-result
invariant_of-result c = assumption (parts_are_whole c.self.inside.doubles c.self.invariant)

pub invariant_of-result-2 : goal.invariant_of-result-2
invariant_of-result-2 c = assumption (parts_are_whole c.self.inside.doubles c.self.invariant)

pub invariant_of-result-3 : goal.invariant_of-result-3
invariant_of-result-3 c = assumption (parts_are_whole c.self.inside.doubles c.self.invariant)

pub invariant_of-result-4 : goal.invariant_of-result-4
invariant_of-result-4 c = assumption (parts_are_whole c.self.inside.doubles c.self.invariant)
