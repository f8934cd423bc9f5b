use Rattle.std.proofs.Common.{◌-◌, ◌≤◌, length}
use Rattle.pf_levels.specs.Links.{AreLinks}
use Rattle.pf_levels.proofs.links.open_level.Given as goal

abbrev pub invariant-loop-number : goal.invariant-loop-number
invariant-loop-number l = record {
  least : l.fn.from ≤ l.number;
  within : l.number ≤ length l.levels;
  links : AreLinks (length l.levels) l.links;
}

abbrev pub decreases-loop-number : goal.decreases-loop-number
decreases-loop-number l = length l.levels - l.number
