use Rattle.pf_lanes.proofs.Casts.{int_double}
use Rattle.pf_lanes.proofs.Holding.{is_whole, exact_view_is}
use Rattle.pf_lanes.proofs.exact.ExactDouble.of.Goals as goal

pub invariant_of-result : goal.invariant_of-result
invariant_of-result c = is_whole _ c.args.raw (int_double c.args.raw c.requires) c.requires

pub returns : goal.returns
returns c = exact_view_is _ c.args.raw (int_double c.args.raw c.requires) c.requires
