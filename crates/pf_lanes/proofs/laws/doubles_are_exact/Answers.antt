use Rattle.pf_lanes.specs.Doubles.{double_of}
use Rattle.pf_lanes.proofs.Sums.{whole_scale, fixed_scale}
use Rattle.pf_lanes.proofs.laws.doubles_are_exact.Goals as goal

pub returns-clause-whole : goal.returns-clause-whole
unfolding double_of
returns-clause-whole c = λ n h. whole_scale.exact _ n h

pub returns-clause-below : goal.returns-clause-below
unfolding double_of
returns-clause-below c = λ n h. whole_scale.exact _ _ h

pub returns-clause-fixed : goal.returns-clause-fixed
unfolding double_of
returns-clause-fixed c = λ n h. fixed_scale.exact _ n h

pub returns-clause-fixed_below : goal.returns-clause-fixed_below
unfolding double_of
returns-clause-fixed_below c = λ n h. fixed_scale.exact _ _ h
