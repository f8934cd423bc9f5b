use Rattle.pf_manifold.proofs.Crossing.{crossing_side, crossing_between, crossing_line, crossing_first, crossing_second}
use Rattle.pf_manifold.proofs.Clipping.{clip_low_is, clip_high_is}
use Rattle.pf_manifold.proofs.laws.crossings_lie_on_the_line.Goals as goal

pub returns-clause-low : goal.returns-clause-low
returns-clause-low c = clip_low_is

pub returns-clause-high : goal.returns-clause-high
returns-clause-high c = clip_high_is

pub returns-clause-side : goal.returns-clause-side
returns-clause-side c = crossing_side

pub returns-clause-between : goal.returns-clause-between
returns-clause-between c = crossing_between

pub returns-clause-line : goal.returns-clause-line
returns-clause-line c = crossing_line

pub returns-clause-first : goal.returns-clause-first
returns-clause-first c = crossing_first

pub returns-clause-second : goal.returns-clause-second
returns-clause-second c = crossing_second
