use Rattle.std.proofs.Common.{ap}
use Rattle.pf_lanes.proofs.ShiftedNumbers.{minus_steps, shifted_results}
use Rattle.pf_lanes.proofs.lanes.Lanes.minus_shifted.Goals as goal

pub invariant_of-result : goal.invariant_of-result
invariant_of-result c =
    (shifted_results _ _ _ _ _ minus_steps _ _ _ _ _ c.self.invariant c.self.view_is c.other-inside.invariant
    (ap (λ r. r.sums) c.other-inside.view_is) c.other.invariant c.other.view_is c.requires).exact

pub returns-clause-value : goal.returns-clause-value
returns-clause-value c =
    (shifted_results _ _ _ _ _ minus_steps _ _ _ _ _ c.self.invariant c.self.view_is c.other-inside.invariant
    (ap (λ r. r.sums) c.other-inside.view_is) c.other.invariant c.other.view_is c.requires).value

pub returns-clause-size : goal.returns-clause-size
returns-clause-size c =
    (shifted_results _ _ _ _ _ minus_steps _ _ _ _ _ c.self.invariant c.self.view_is c.other-inside.invariant
    (ap (λ r. r.sums) c.other-inside.view_is) c.other.invariant c.other.view_is c.requires).size
