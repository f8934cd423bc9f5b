use Rattle.std.proofs.Common.{subst}
use Rattle.pf_scripts.specs.Play.{HasMoved}
use Rattle.pf_scripts.specs.Script.{frame_bytes, frames_in}
use Rattle.pf_scripts.proofs.Moves.{turn_moved}
use Rattle.pf_scripts.proofs.peer.Peer.play_turn.Goals as goal

pub returns-clause-moved : goal.returns-clause-moved
returns-clause-moved g c =
    turn_moved (frames_in c.args.turn.now) c.args.turn.now.ticks c.args.self.now c.take_all_own.new.self c.poll_all.new.self c.go_on.new.self c.settle.new.self
    c.in_range.ensures.all
    (subst (λ fs. HasMoved (frame_bytes fs) 0 c.args.self.now c.take_all_own.new.self) c.deref.ensures.value c.in_ok-place.ensures.moved)
    c.in_ok-poll_all.ensures.moved c.in_ok-go_on.ensures.moved c.in_ok-settle.ensures.moved
