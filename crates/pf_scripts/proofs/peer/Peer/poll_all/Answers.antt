use Rattle.std.proofs.Common.{[], arith}
use Rattle.pf_scripts.proofs.Moves.{moved_none, moved_then}
use Rattle.pf_scripts.proofs.Steps.{moved_polled}
use Rattle.pf_scripts.proofs.peer.Peer.poll_all.Goals as goal

pub loop-init : goal.loop-init
loop-init c = record { moved = moved_none c.args.self.now; kept = λ some. absurd (omega (arith, some)) }

pub returns-in-Ok-clause-moved : goal.returns-in-Ok-clause-moved
returns-in-Ok-clause-moved c =
    let polled = c.poll.ensures.polled in
    moved_then [] [] 0 0 c.args.self.now c.loop.self c.poll.new.self c.in_range.ensures.all c.loop.invariant.moved
    (moved_polled c.loop.self c.poll.new.self polled.0 polled.1)

pub loop-preserved : goal.loop-preserved
loop-preserved c =
    let polled = c.poll.ensures.polled in record {
      moved = moved_then [] [] 0 0 c.args.self.now c.loop.self c.poll.new.self c.in_range.ensures.all c.loop.invariant.moved
          (moved_polled c.loop.self c.poll.new.self polled.0 polled.1);
      kept = λ some. c.in-Ok.ensures.ok;
    }
