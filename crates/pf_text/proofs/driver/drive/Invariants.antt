use Rattle.std.proofs.Common.{◌≡◌, ℕ, List, Some}
use Rattle.pf_text.proofs.Progress.{Progress}
use Rattle.pf_text.proofs.driver.drive.Given as goal

abbrev pub invariant-loop-number : goal.invariant-loop-number
invariant-loop-number g l = record {
  so_far : (input before : List ℕ) → g.R.Source.remaining l.fn.reader ≡ Some input → g.W.Sink.contents l.fn.writer ≡ Some before → Progress g.M.Machine.rules l.fn.start input before (g.R.Source.remaining l.reader) (g.W.Sink.contents l.writer) l.number l.machine;
  lent_kept : l.lent ≡ l.fn.lent;
  no_read_failed : g.R.Source.failures l.reader ≡ g.R.Source.failures l.fn.reader;
  no_write_failed : g.W.Sink.failures l.writer ≡ g.W.Sink.failures l.fn.writer;
}
