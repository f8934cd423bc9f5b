use Rattle.std.proofs.Common.{length}
use Rattle.pf_sessions.proofs.table.+add_first_entries.Given as goal

abbrev pub decreases-add_first_entries : goal.decreases-add_first_entries
decreases-add_first_entries l = length l.columns.now
