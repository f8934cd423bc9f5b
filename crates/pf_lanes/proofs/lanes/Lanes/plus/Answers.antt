use Rattle.pf_lanes.proofs.Sums.{whole_scale}
use Rattle.pf_lanes.proofs.Holding.{view_is, exact_is, holds_view, plus_holds}
use Rattle.pf_lanes.proofs.Numbers.{sum_in, sum_size_in}
use Rattle.pf_lanes.proofs.lanes.Lanes.plus.Goals as goal

pub invariant_of-result : goal.invariant_of-result
invariant_of-result c =
    exact_is 1 whole_scale _ _ (plus_holds _ _ _ _ (holds_view 1 _ _ c.self.invariant c.self.view_is) (holds_view 1 _ _ c.other.invariant c.other.view_is) c.requires)

pub returns-clause-value : goal.returns-clause-value
returns-clause-value c = λ k.
    sum_in _ c.args.self c.args.other k
    (view_is 1 whole_scale _ _ (plus_holds _ _ _ _ (holds_view 1 _ _ c.self.invariant c.self.view_is) (holds_view 1 _ _ c.other.invariant c.other.view_is) c.requires)) (c.requires k)

pub returns-clause-size : goal.returns-clause-size
returns-clause-size c = λ k.
    sum_size_in _ c.args.self c.args.other k
    (view_is 1 whole_scale _ _ (plus_holds _ _ _ _ (holds_view 1 _ _ c.self.invariant c.self.view_is) (holds_view 1 _ _ c.other.invariant c.other.view_is) c.requires))
