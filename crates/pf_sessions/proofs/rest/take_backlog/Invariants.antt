use Rattle.std.proofs.Common.{take}
use Rattle.pf_links.specs.Link.{backlog_of}
use Rattle.pf_sessions.specs.Rest.{HasTaken}
use Rattle.pf_sessions.proofs.rest.take_backlog.Given as goal

abbrev pub invariant-loop-index : goal.invariant-loop-index
invariant-loop-index l = HasTaken l.fn.core l.core (take l.index (backlog_of l.sender))
