use Rattle.pf_lanes.proofs.Numbers.{product_is}
use Rattle.pf_lanes.proofs.laws.products_are_those_of_numbers.Goals as goal

pub returns : goal.returns
returns c = product_is
