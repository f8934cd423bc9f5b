use Rattle.std.proofs.Common.{length}
use Rattle.pf_sessions.proofs.rest.+take_rest.Given as goal

abbrev pub decreases-take_rest : goal.decreases-take_rest
decreases-take_rest l = length l.senders.now
