use Rattle.std.proofs.Common.{neg_ℤ, ap, ◌∙◌}
use Rattle.pf_lanes.specs.Lanes.{number_in}
use Rattle.pf_lanes.proofs.ByLane.{number_in-map_lanes}
use Rattle.pf_lanes.proofs.Sums.{whole_scale}
use Rattle.pf_lanes.proofs.Holding.{view_is, exact_is, holds_view, negated_hold}
use Rattle.pf_lanes.proofs.lanes.Lanes.negated.Goals as goal

pub invariant_of-result : goal.invariant_of-result
invariant_of-result c = exact_is 1 whole_scale _ _ (negated_hold _ _ (holds_view 1 _ _ c.self.invariant c.self.view_is))

pub returns : goal.returns
returns c = λ k.
    ap (number_in k) (view_is 1 whole_scale _ _ (negated_hold _ _ (holds_view 1 _ _ c.self.invariant c.self.view_is)))
    ∙ number_in-map_lanes neg_ℤ c.args.self k
