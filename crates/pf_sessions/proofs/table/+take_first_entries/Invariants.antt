use Rattle.std.proofs.Common.{length}
use Rattle.pf_sessions.proofs.table.+take_first_entries.Given as goal

abbrev pub decreases-take_first_entries : goal.decreases-take_first_entries
decreases-take_first_entries l = length l.rows.now
