use Rattle.std.proofs.Common.{◌≡◌, ◌-◌, ◌≤◌, true, length}
use Rattle.std.specs.Io.KnownBytes.{Consumes}
use Rattle.pf_text.specs.Lines.{is_line}
use Rattle.pf_text.proofs.lines.take_line.Given as goal

abbrev pub invariant-loop-source : goal.invariant-loop-source
invariant-loop-source g l = record {
  bounded : length l.line.items ≤ 4097;
  line_is : is_line l.line.items ≡ true;
  taken : Consumes (g.R.Source.remaining l.fn.source) (g.R.Source.remaining l.source) l.line.items;
  none_failed : g.R.Source.failures l.source ≡ g.R.Source.failures l.fn.source;
}

abbrev pub decreases-loop-source : goal.decreases-loop-source
decreases-loop-source g l = 4097 - length l.line.items
