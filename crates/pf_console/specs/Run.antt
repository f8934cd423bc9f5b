-- What the lines of a run mean behind its peers: they are events on a session.
use Rattle.std.specs.Prelude.{ℕ, Bool, true, false, List, length, Result, Ok, Err}
use Rattle.pf_text.specs.declared.fault.LineFault.{LineFault}
use Rattle.pf_text.specs.Driver.{Rules}
use Rattle.pf_shapes.specs.declared.fault.SceneFault.{SceneFault}
use Rattle.pf_shapes.specs.Fault.{scene_fault_of}
use Rattle.pf_events.specs.declared.event.Event.{Event}
use Rattle.pf_events.specs.declared.event.Event.TheVariants.{Settle}
use Rattle.pf_events.specs.Session.{Session, new_session, reply_to, session_after}
use Rattle.pf_console.specs.declared.phase.Phase.{Phase}
use Rattle.pf_console.specs.Grammar.{event_of}
use Rattle.pf_console.specs.Phase.{phase_rules}
use Rattle.pf_console.specs.PlayRules.{PlayRules}
use Rattle.pf_console.specs.Print.{reply_text}

-- an event has the text of its reply
abbrev pub after_event : Session → Result Event LineFault → Result (List ℕ × Session) SceneFault
after_event s (Ok event) =
    Ok (reply_text s.scene.fixtures (reply_to s event), session_after s event)
after_event s (Err fault) = Err (scene_fault_of fault)

abbrev pub is_settle : Result Event LineFault → Bool
is_settle (Ok (Settle peer)) = true
is_settle other = false

-- new peers, and then events on them, of which only a settle may change what its line is lent
abbrev pub run_play : PlayRules Session
run_play = record {
  begin = new_session;
  after = λ s fields. after_event s (event_of (length s.peers) fields);
  changes_lent = λ s fields. is_settle (event_of (length s.peers) fields);
}

-- a run by its lines
abbrev pub text_rules : Rules (Phase Session) SceneFault
text_rules = phase_rules run_play
