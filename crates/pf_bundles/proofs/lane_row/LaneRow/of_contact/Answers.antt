use Rattle.std.proofs.Common.{rules, arith}
use Rattle.pf_bundles.proofs.Arms.{are_greatest, fitting_arms, no_some, unfitting}
use Rattle.pf_bundles.proofs.lane_row.LaneRow.of_contact.Goals as goal

pub returns-in_err-spin-clause-fits : goal.returns-in_err-spin-clause-fits
returns-in_err-spin-clause-fits c = (
  λ some. absurd (no_some _ c.from_residual.ensures some),
  λ fits. absurd (no_some _ c.in_err-spin.was (c.spin_limit_of.ensures.some.1 (fitting_arms _ _ _ fits))),
)

pub returns-in_err-push-clause-fits : goal.returns-in_err-push-clause-fits
returns-in_err-push-clause-fits c = (
  λ some. absurd (no_some _ c.from_residual-in_err-push.ensures some),
  λ fits. absurd (unfitting _ _ _ _ c.in_ok-spin.ensures.greatest (c.push_limit_of.ensures.none c.in_err-push.was) fits),
)

pub returns-clause-limits : goal.returns-clause-limits
returns-clause-limits c =
    are_greatest _ _ _ c.in_ok-spin.spin c.in_ok-push.push c.of.result c.of-2.result (grind (arith, rules, c.of.ensures)) (grind (arith, rules, c.of-2.ensures))
    c.in_ok-spin.ensures.greatest c.in_ok-push.ensures.greatest
