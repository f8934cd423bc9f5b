use Rattle.std.proofs.Common.{pos, ap, ◌∙◌, lit≤}
use Rattle.pf_lanes.specs.Lanes.{number_in}
use Rattle.pf_lanes.proofs.ByLane.{number_in-four_of}
use Rattle.pf_lanes.proofs.Products.{zero_is}
use Rattle.pf_lanes.proofs.Sums.{whole_scale}
use Rattle.pf_lanes.proofs.Holding.{view_is, exact_is, same_hold}
use Rattle.pf_lanes.proofs.lanes.Lanes.zero.Goals as goal

pub invariant_of-result : goal.invariant_of-result
invariant_of-result c = exact_is 1 whole_scale _ _ (same_hold (pos 0) _ zero_is (lit≤ tt))

pub returns : goal.returns
returns c = λ k.
    ap (number_in k) (view_is 1 whole_scale _ _ (same_hold (pos 0) _ zero_is (lit≤ tt)))
    ∙ number_in-four_of (pos 0) k
