use Rattle.std.proofs.Common.{length}
use Rattle.runs_texts.proofs.main.Given as goal

abbrev pub decreases-loop-text : goal.decreases-loop-text
decreases-loop-text g l = length l.rest
