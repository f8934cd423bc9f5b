use Rattle.std.proofs.Common.{◌∙◌, ap}
use Rattle.pf_num.specs.Fx.{difference}
use Rattle.pf_lanes.specs.Lanes.{number_in}
use Rattle.pf_lanes.proofs.Sums.{whole_scale}
use Rattle.pf_lanes.proofs.Holding.{view_is, exact_is, holds_view}
use Rattle.pf_lanes.proofs.ShiftedNumbers.{both_hold, both_in, both_size_in}
use Rattle.pf_lanes.proofs.shifted.ShiftedLanes.minus.Goals as goal

pub invariant_of-result : goal.invariant_of-result
invariant_of-result c = exact_is 1 whole_scale _ _ (both_hold _ _ _ _ (holds_view 1 _ _ c.self-inside.invariant (ap (λ r. r.sums) c.self-inside.view_is)) (holds_view 1 _ _ c.other-inside.invariant (ap (λ r. r.sums) c.other-inside.view_is)) c.self.invariant c.other.invariant)

pub returns-clause-value : goal.returns-clause-value
returns-clause-value c = λ k.
    both_in _ _ _ _ (holds_view 1 _ _ c.self-inside.invariant (ap (λ r. r.sums) c.self-inside.view_is)) (holds_view 1 _ _ c.other-inside.invariant (ap (λ r. r.sums) c.other-inside.view_is)) c.self.invariant c.other.invariant _ k
    (view_is 1 whole_scale _ _ (both_hold _ _ _ _ (holds_view 1 _ _ c.self-inside.invariant (ap (λ r. r.sums) c.self-inside.view_is)) (holds_view 1 _ _ c.other-inside.invariant (ap (λ r. r.sums) c.other-inside.view_is)) c.self.invariant c.other.invariant))
    ∙ (λ i. difference (number_in k (c.self.view_is i)) (number_in k (c.other.view_is i)))

pub returns-clause-size : goal.returns-clause-size
returns-clause-size c = λ k.
    both_size_in _ _ _ _ (holds_view 1 _ _ c.self-inside.invariant (ap (λ r. r.sums) c.self-inside.view_is)) (holds_view 1 _ _ c.other-inside.invariant (ap (λ r. r.sums) c.other-inside.view_is)) c.self.invariant c.other.invariant _ k
    (view_is 1 whole_scale _ _ (both_hold _ _ _ _ (holds_view 1 _ _ c.self-inside.invariant (ap (λ r. r.sums) c.self-inside.view_is)) (holds_view 1 _ _ c.other-inside.invariant (ap (λ r. r.sums) c.other-inside.view_is)) c.self.invariant c.other.invariant))
