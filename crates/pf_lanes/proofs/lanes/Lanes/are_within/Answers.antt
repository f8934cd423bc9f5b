use Rattle.std.proofs.Common.{pos}
use Rattle.pf_lanes.proofs.Casts.{limit_double}
use Rattle.pf_lanes.proofs.Holding.{view_is, exact_is, same_hold}
use Rattle.pf_lanes.proofs.Sums.{whole_scale}
use Rattle.pf_lanes.proofs.Tests.{within_says}
use Rattle.pf_lanes.proofs.lanes.Lanes.are_within.Goals as goal

pub invariant_of-limits : goal.invariant_of-limits
invariant_of-limits c =
    exact_is 1 whole_scale _ _ (same_hold (pos c.args.limit) _ (limit_double c.args.limit c.requires) c.requires)

pub returns : goal.returns
returns c =
    within_says _ c.args.self _ c.args.limit
    (view_is 1 whole_scale _ _ (same_hold (pos c.args.limit) _ (limit_double c.args.limit c.requires) c.requires))
    c.are_within_each.ensures
