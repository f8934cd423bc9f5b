use Rattle.pf_lanes.specs.Lanes.{First, Second, Third, Fourth, number_in, lanes_of}
use Rattle.pf_lanes.proofs.Casts.{in_range}
use Rattle.pf_lanes.proofs.Sums.{fixed_scale}
use Rattle.pf_lanes.proofs.Holding.{view_is, exact_is, scaled_hold}
use Rattle.pf_lanes.proofs.scaled.Scaled.of.Goals as goal

pub invariant_of-result : goal.invariant_of-result
invariant_of-result c = exact_is 16777216 fixed_scale _ _ (scaled_hold (lanes_of c.args.numbers) c.requires)

pub returns : goal.returns
returns c = view_is 16777216 fixed_scale _ _ (scaled_hold (lanes_of c.args.numbers) c.requires)

pub int_to_float-doubles : goal.int_to_float-doubles
int_to_float-doubles c = in_range (number_in First (lanes_of c.args.numbers)) (c.requires First)

pub int_to_float-doubles-2 : goal.int_to_float-doubles-2
int_to_float-doubles-2 c = in_range (number_in Second (lanes_of c.args.numbers)) (c.requires Second)

pub int_to_float-doubles-3 : goal.int_to_float-doubles-3
int_to_float-doubles-3 c = in_range (number_in Third (lanes_of c.args.numbers)) (c.requires Third)

pub int_to_float-doubles-4 : goal.int_to_float-doubles-4
int_to_float-doubles-4 c = in_range (number_in Fourth (lanes_of c.args.numbers)) (c.requires Fourth)
