use Rattle.pf_lanes.proofs.Sums.{whole_scale}
use Rattle.pf_lanes.proofs.Holding.{view_is, exact_is, holds_view}
use Rattle.pf_lanes.proofs.ShiftedNumbers.{shifted_opposite_holds, opposite_in, opposites_are_shifted}
use Rattle.pf_lanes.proofs.lanes.Lanes.shifted_opposite.Goals as goal

pub invariant_of-result : goal.invariant_of-result
invariant_of-result c = exact_is 1 whole_scale _ _ (shifted_opposite_holds _ _ _ _ (holds_view 1 _ _ c.self.invariant c.self.view_is) (holds_view 16777216 _ _ c.factors.invariant c.factors.view_is) c.requires)

pub invariant_of-result-2 : goal.invariant_of-result-2
invariant_of-result-2 c =
    opposites_are_shifted _ c.args.self c.args.factors c.requires
    (view_is 1 whole_scale _ _ (shifted_opposite_holds _ _ _ _ (holds_view 1 _ _ c.self.invariant c.self.view_is) (holds_view 16777216 _ _ c.factors.invariant c.factors.view_is) c.requires))

pub returns-clause-value : goal.returns-clause-value
returns-clause-value c = λ k.
    opposite_in _ c.args.self c.args.factors k
    (view_is 1 whole_scale _ _ (shifted_opposite_holds _ _ _ _ (holds_view 1 _ _ c.self.invariant c.self.view_is) (holds_view 16777216 _ _ c.factors.invariant c.factors.view_is) c.requires)) (c.requires k)

pub returns-clause-size : goal.returns-clause-size
returns-clause-size c =
    (opposites_are_shifted _ c.args.self c.args.factors c.requires
    (view_is 1 whole_scale _ _ (shifted_opposite_holds _ _ _ _ (holds_view 1 _ _ c.self.invariant c.self.view_is) (holds_view 16777216 _ _ c.factors.invariant c.factors.view_is) c.requires))).small
