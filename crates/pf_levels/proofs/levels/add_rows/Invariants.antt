use Rattle.std.proofs.Common.{◌≡◌, length}
use Rattle.pf_levels.specs.Links.{AreLinks}
use Rattle.pf_levels.specs.SoFar.{AreLevelsUpTo}
use Rattle.pf_levels.proofs.levels.add_rows.Given as goal

abbrev pub invariant-loop-place : goal.invariant-loop-place
invariant-loop-place l = record {
  levels : AreLevelsUpTo l.pairs l.place l.next l.levels.items;
  links : AreLinks (length l.levels.items) l.links.items;
  length : length l.next ≡ length l.fn.next;
}
