use Rattle.std.proofs.Common.{◌∷◌, [], subst, sym}
use Rattle.pf_sessions.specs.Rest.{HasTaken}
use Rattle.pf_scripts.specs.Peer.{fresh}
use Rattle.pf_sessions.proofs.Rests.{fresh_more, later_more, leaves_then, taken_then}
use Rattle.pf_sessions.proofs.rest.take_ring.Goals as goal

pub loop-frame-preserved : goal.loop-frame-preserved
loop-frame-preserved c =
    let first = c.args.input.now in
    let old = c.loop-frame.input in
    let new = c.bring.new.self in
    let frame = c.in-Some.frame in
    let more = c.in-Some.ensures.some in
    let is = c.loop-frame.invariant in record {
      taken = subst (HasTaken c.args.core.now c.take.new.core) (sym (fresh_more first old new frame is.later c.bring.ensures.same more))
          (taken_then c.args.core.now c.loop-frame.core c.take.new.core (fresh first old) (frame ∷ []) is.taken
          (record { setting = c.take.ensures.setting; peer = c.in_ok-take.ensures.peer; ranges = c.take.ensures.ranges }));
      later = later_more first old new frame is.later c.bring.ensures.same more;
      frames = leaves_then c.args.sender.now c.loop-frame.sender c.bring.new.from is.frames c.bring.ensures.frames;
      ends = c.bring.ensures.ends;
    }
