use Rattle.pf_lanes.proofs.Numbers.{sum_is, difference_is}
use Rattle.pf_lanes.proofs.laws.sums_are_those_of_numbers.Goals as goal

pub returns-clause-sums : goal.returns-clause-sums
returns-clause-sums c = sum_is

pub returns-clause-differences : goal.returns-clause-differences
returns-clause-differences c = difference_is
