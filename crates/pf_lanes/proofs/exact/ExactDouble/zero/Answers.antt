use Rattle.std.proofs.Common.{pos, lit≤}
use Rattle.pf_lanes.proofs.Holding.{is_whole, exact_view_is}
use Rattle.pf_lanes.proofs.Products.{zero_is}
use Rattle.pf_lanes.proofs.exact.ExactDouble.zero.Goals as goal

pub invariant_of-result : goal.invariant_of-result
invariant_of-result c = is_whole _ (pos 0) zero_is (lit≤ tt)

pub returns : goal.returns
returns c = exact_view_is _ (pos 0) zero_is (lit≤ tt)
