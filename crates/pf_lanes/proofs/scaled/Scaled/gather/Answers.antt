use Rattle.std.proofs.Common.{arith}
use Rattle.std.proofs.lemmas.Grind.{common_steps}
use Rattle.pf_lanes.specs.Lanes.{lanes_of}
use Rattle.pf_lanes.proofs.Sums.{fixed_scale}
use Rattle.pf_lanes.proofs.Holding.{view_is, exact_is, scaled_wholes}
use Rattle.pf_lanes.proofs.scaled.Scaled.gather.Goals as goal

pub invariant_of-result : goal.invariant_of-result
invariant_of-result c =
    exact_is 16777216 fixed_scale _ _
    (scaled_wholes (lanes_of c.args.numbers) _ _ _ _ c.first.invariant c.second.invariant c.third.invariant c.fourth.invariant
    (grind (arith, common_steps)) (grind (arith, common_steps)) (grind (arith, common_steps)) (grind (arith, common_steps)))

pub returns : goal.returns
returns c =
    view_is 16777216 fixed_scale _ _
    (scaled_wholes (lanes_of c.args.numbers) _ _ _ _ c.first.invariant c.second.invariant c.third.invariant c.fourth.invariant
    (grind (arith, common_steps)) (grind (arith, common_steps)) (grind (arith, common_steps)) (grind (arith, common_steps)))
