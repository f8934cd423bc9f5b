use Rattle.std.proofs.Common.{sym, subst}
use Rattle.pf_lanes.specs.Doubles.{FitsDouble}
use Rattle.pf_lanes.proofs.Holding.{exact_back, exact_double}
use Rattle.pf_lanes.proofs.exact.ExactDouble.raw.Goals as goal

pub float_to_int-result : goal.float_to_int-result
float_to_int-result c = (exact_back _ _ c.self.invariant c.self.view_is).0

pub returns-clause-value : goal.returns-clause-value
returns-clause-value c = (exact_back _ _ c.self.invariant c.self.view_is).1

pub returns-clause-range : goal.returns-clause-range
returns-clause-range c =
    subst FitsDouble (sym (returns-clause-value c)) (exact_double _ _ c.self.invariant c.self.view_is).1
