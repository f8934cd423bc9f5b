use Rattle.pf_lanes.proofs.Sums.{whole_scale}
use Rattle.pf_lanes.proofs.Holding.{view_is, exact_is, holds_view, product_holds}
use Rattle.pf_lanes.proofs.Numbers.{product_in, product_small_in, product_bound_in}
use Rattle.pf_lanes.proofs.lanes.Lanes.product.Goals as goal

pub invariant_of-result : goal.invariant_of-result
invariant_of-result c = exact_is 1 whole_scale _ _ (product_holds _ _ _ _ (holds_view 1 _ _ c.self.invariant c.self.view_is) (holds_view 16777216 _ _ c.factors.invariant c.factors.view_is) c.requires)

pub returns-clause-value : goal.returns-clause-value
returns-clause-value c = λ k.
    product_in _ c.args.self c.args.factors k (view_is 1 whole_scale _ _ (product_holds _ _ _ _ (holds_view 1 _ _ c.self.invariant c.self.view_is) (holds_view 16777216 _ _ c.factors.invariant c.factors.view_is) c.requires)) (c.requires k)

pub returns-clause-size : goal.returns-clause-size
returns-clause-size c = λ k.
    product_small_in _ c.args.self c.args.factors k (view_is 1 whole_scale _ _ (product_holds _ _ _ _ (holds_view 1 _ _ c.self.invariant c.self.view_is) (holds_view 16777216 _ _ c.factors.invariant c.factors.view_is) c.requires)) (c.requires k)

pub returns-clause-bound : goal.returns-clause-bound
returns-clause-bound c = λ k.
    product_bound_in _ c.args.self c.args.factors k (view_is 1 whole_scale _ _ (product_holds _ _ _ _ (holds_view 1 _ _ c.self.invariant c.self.view_is) (holds_view 16777216 _ _ c.factors.invariant c.factors.view_is) c.requires))
