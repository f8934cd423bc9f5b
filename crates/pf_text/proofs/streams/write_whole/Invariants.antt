use Rattle.std.proofs.Common.{◌≡◌, length}
use Rattle.pf_text.specs.Lines.{AppendsPrefix}
use Rattle.pf_text.proofs.streams.write_whole.Given as goal

abbrev pub invariant-loop-rest : goal.invariant-loop-rest
invariant-loop-rest g l = (written : AppendsPrefix (g.W.Write.contents l.fn.writer) (g.W.Write.contents l.writer) l.fn.bytes) × (written.rest ≡ l.rest)

abbrev pub decreases-loop-rest : goal.decreases-loop-rest
decreases-loop-rest g l = length l.rest
