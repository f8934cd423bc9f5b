use Rattle.std.proofs.Common.{◌-◌, length}
use Rattle.pf_links.specs.Link.{AreEnds, LeavesFrames, got, pushed_frames}
use Rattle.pf_scripts.specs.Peer.{IsLater, fresh}
use Rattle.pf_sessions.specs.Rest.{HasTaken}
use Rattle.pf_sessions.proofs.rest.take_ring.Given as goal

abbrev pub invariant-loop-frame : goal.invariant-loop-frame
invariant-loop-frame l = record {
  taken : HasTaken l.fn.core l.core (fresh l.fn.input l.input);
  later : IsLater l.fn.input l.input;
  frames : LeavesFrames l.fn.sender l.sender;
  ends : AreEnds l.sender l.input;
}

abbrev pub decreases-loop-frame : goal.decreases-loop-frame
decreases-loop-frame l = length (pushed_frames l.sender) - length (got l.input)
