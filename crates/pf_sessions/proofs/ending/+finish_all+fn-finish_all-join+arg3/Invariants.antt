use Rattle.std.proofs.Common.{length}
use Rattle.pf_sessions.proofs.ending.+finish_all+fn-finish_all-join+arg3.Given as goal

abbrev pub decreases-join+arg3 : goal.decreases-join+arg3
decreases-join+arg3 g l = length l.receivers.items

abbrev pub decreases-finish_all : goal.decreases-finish_all
decreases-finish_all g l = length l.receivers.items
