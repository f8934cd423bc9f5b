use Rattle.std.proofs.Common.{◌≡◌, ◌++◌, length, drop}
use Rattle.pf_events.specs.Session.{new_session, replies_to}
use Rattle.pf_events.proofs.replay.run.Given as goal

-- the replies so far, and those to the events that are left; the number of peers stays
abbrev pub invariant-loop-event : goal.invariant-loop-event
invariant-loop-event l =
    (l.replies.items ++ replies_to l.session (drop l.event-index l.events)
    ≡ replies_to (new_session l.scene l.peers) l.events)
    × (length l.session.peers ≡ l.peers)
