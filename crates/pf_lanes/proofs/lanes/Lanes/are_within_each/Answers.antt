use Rattle.pf_lanes.proofs.Holding.{holds_view}
use Rattle.pf_lanes.proofs.Tests.{within_each_says}
use Rattle.pf_lanes.proofs.lanes.Lanes.are_within_each.Goals as goal

pub returns : goal.returns
returns c =
    within_each_says _ _ _ _ (holds_view 1 _ _ c.self.invariant c.self.view_is) (holds_view 1 _ _ c.limits.invariant c.limits.view_is)
