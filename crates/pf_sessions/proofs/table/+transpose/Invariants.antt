use Rattle.std.proofs.Common.{length}
use Rattle.pf_sessions.proofs.table.+transpose.Given as goal

abbrev pub decreases-transpose : goal.decreases-transpose
decreases-transpose l = length l.table.items
