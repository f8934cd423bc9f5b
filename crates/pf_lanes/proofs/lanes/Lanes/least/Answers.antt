use Rattle.std.proofs.Common.{ap, ◌∙◌}
use Rattle.std.specs.Int.{int_min}
use Rattle.pf_lanes.specs.Lanes.{number_in}
use Rattle.pf_lanes.proofs.ByLane.{number_in-zip_lanes}
use Rattle.pf_lanes.proofs.Sums.{whole_scale}
use Rattle.pf_lanes.proofs.Holding.{view_is, exact_is, holds_view}
use Rattle.pf_lanes.proofs.Tests.{least_hold}
use Rattle.pf_lanes.proofs.lanes.Lanes.least.Goals as goal

pub invariant_of-result : goal.invariant_of-result
invariant_of-result c = exact_is 1 whole_scale _ _ (least_hold _ _ _ _ (holds_view 1 _ _ c.self.invariant c.self.view_is) (holds_view 1 _ _ c.other.invariant c.other.view_is))

pub returns : goal.returns
returns c = λ k.
    ap (number_in k) (view_is 1 whole_scale _ _ (least_hold _ _ _ _ (holds_view 1 _ _ c.self.invariant c.self.view_is) (holds_view 1 _ _ c.other.invariant c.other.view_is)))
    ∙ number_in-zip_lanes int_min c.args.self c.args.other k
