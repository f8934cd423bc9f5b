use Rattle.std.proofs.Common.{rules, arith, ◌≡◌, ◌+◌, ◌-◌, ◌*◌, ◌<◌}
use Rattle.pf_num.proofs.Quotients.{nearest_within}
use Rattle.pf_num.proofs.quotient.is_nearest.Goals as goal

pub returns-in-Some : goal.returns-in-Some
returns-in-Some c h =
    let product : c.in-Some.product ≡ c.args.n * c.args.b = search rules in
    let distance : c.abs_diff.result ≡ (c.in-Some.product - c.args.p) + (c.args.p - c.in-Some.product) = search rules in
    let near : 2 * c.abs_diff.result < c.args.b = c.is_below_half.ensures.0 h in
    nearest_within c.args.p c.args.b c.args.n (omega (arith, product, distance, near))
