use Rattle.pf_events.proofs.BothWays.{merged_both_ways}
use Rattle.pf_events.proofs.laws.merging_both_ways_makes_maps_equal.Goals as goal

pub returns : goal.returns
returns c = merged_both_ways
