use Rattle.pf_lanes.proofs.Holding.{holds_view}
use Rattle.pf_lanes.proofs.Tests.{below_says}
use Rattle.pf_lanes.proofs.lanes.Lanes.product_is_below.Goals as goal

pub returns : goal.returns
returns c =
    below_says _ _ _ _ c.args.limit (holds_view 1 _ _ c.self.invariant c.self.view_is) (holds_view 16777216 _ _ c.factors.invariant c.factors.view_is) c.requires
