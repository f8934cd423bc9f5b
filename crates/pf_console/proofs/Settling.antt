-- Only a line `settle P` may change what a run lends to its lines.
use Rattle.std.proofs.Common.{◌≡◌, ◌≢◌, Bool, true, false, ℕ, List, [], length, Result, Ok, Err, IsOk, refl, if◌then◌else◌}
use Rattle.pf_text.specs.declared.fault.LineFault.{LineFault}
use Rattle.pf_text.specs.declared.fault.LineFault.TheVariants.{BadLine}
use Rattle.pf_text.specs.declared.driver.TakeError.TheVariants as take_errors
use Rattle.pf_text.specs.Driver.{KeepsLent, StopsAtChange, fields_pass, fields_step, is_plain, is_skipped, line_changes_lent, line_step}
use Rattle.pf_text.specs.Fields.{fields_of}
use Rattle.pf_text.specs.Streams.{Transfer}
use Rattle.pf_events.specs.declared.event.Event.{Event}
use Rattle.pf_events.specs.declared.event.Event.TheVariants.{Issue, Take, Merge, Advance, Settle, Show, Seal}
use Rattle.pf_events.specs.Session.{Session}
use Rattle.pf_shapes.specs.declared.fault.SceneFault.{SceneFault}
use Rattle.pf_shapes.specs.Fault.{scene_fault_of}
use Rattle.pf_console.specs.declared.phase.Phase.{Phase}
use Rattle.pf_console.specs.declared.phase.Phase.TheVariants.{Reading, Seating, Playing}
use Rattle.pf_console.specs.Grammar.{IsLineOf, event_of}
use Rattle.pf_console.specs.Phase.{Transition, first_phase, may_change_lent}
use Rattle.pf_console.specs.Run.{is_settle, run_play, text_rules}
use Rattle.pf_console.specs.Text.{StopsAtSettle}

-- where no memory is left for an event, what its line was lent is as it was, unless the event settles
pub kept_unless_settle : (T : Type 0) {L : Type 0} (event : Event) (before after : L) → (((peer : ℕ) → event ≢ Settle peer) → after ≡ before)
    → KeepsLent {T = T} {F = SceneFault} (Err take_errors.Memory) (is_settle (Ok event)) before after
kept_unless_settle T (Settle peer) before after kept = tt
kept_unless_settle T (Issue peer payload) before after kept = kept (λ p e. absurd cc)
kept_unless_settle T (Take peer frame) before after kept = kept (λ p e. absurd cc)
kept_unless_settle T (Merge peer other) before after kept = kept (λ p e. absurd cc)
kept_unless_settle T (Advance peer ticks) before after kept = kept (λ p e. absurd cc)
kept_unless_settle T (Show peer tick) before after kept = kept (λ p e. absurd cc)
kept_unless_settle T (Seal peer tick) before after kept = kept (λ p e. absurd cc)

settle_event : (event : Result Event LineFault) → is_settle event ≡ true → (peer : ℕ) × (event ≡ Ok (Settle peer))
settle_event (Ok (Settle peer)) is = (peer, refl)
settle_event (Ok (Issue peer payload)) is = absurd cc
settle_event (Ok (Take peer frame)) is = absurd cc
settle_event (Ok (Merge peer other)) is = absurd cc
settle_event (Ok (Advance peer ticks)) is = absurd cc
settle_event (Ok (Show peer tick)) is = absurd cc
settle_event (Ok (Seal peer tick)) is = absurd cc
settle_event (Err fault) is = absurd cc

-- the session and the peer of fields that settle
record Settles (state : Phase Session) (fields : List (List ℕ)) : Type 0 where
  session : Session
  state_is : state ≡ Playing session
  peer : ℕ
  event_is : event_of (length session.peers) fields ≡ Ok (Settle peer)

settle_fields : (state : Phase Session) (fields : List (List ℕ)) → may_change_lent run_play state fields ≡ true → Settles state fields
unfolding may_change_lent
settle_fields (Reading reader) fields is = absurd cc
settle_fields (Seating scene) fields is = absurd cc
settle_fields (Playing session) fields is =
    let found = settle_event (event_of (length session.peers) fields) is in
    record { session = session; state_is = refl; peer = found.0; event_is = found.1 }

settle_parsed : (state : Phase Session) (parsed : Result (List (List ℕ)) LineFault) → fields_pass parsed (may_change_lent run_play state) ≡ true
    → (fields : List (List ℕ)) × (parsed ≡ Ok fields) × Settles state fields
settle_parsed state (Ok fields) is = (fields, refl, settle_fields state fields is)
settle_parsed state (Err fault) is = absurd cc

-- the session and the peer of a line that settles
record SettlesBy (state : Phase Session) (line : List ℕ) : Type 0 where
  session : Session
  state_is : state ≡ Playing session
  peer : ℕ
  line_is : IsLineOf (length session.peers) line (Settle peer)

settle_line : (state : Phase Session) (line : List ℕ) → IsOk (line_step text_rules state line)
    → line_changes_lent text_rules state line ≡ true → SettlesBy state line
unfolding line_step
settle_line state line valid changes = by (is_plain line) (is_skipped line) refl refl valid changes
  where
    by : (plain skipped : Bool) → is_plain line ≡ plain → is_skipped line ≡ skipped
        → IsOk (let step : Transition Session = if plain then (if skipped then Ok ([], state) else fields_step text_rules state (fields_of line)) else Err (scene_fault_of BadLine) in step)
        → (if skipped then false else fields_pass (fields_of line) (may_change_lent run_play state)) ≡ true
        → SettlesBy state line
    by true true plain skipped ok is = absurd cc
    by false skip plain skipped ok is = absurd cc
    by true false plain skipped ok is =
        let found = settle_parsed state (fields_of line) is in
        record {
          session = found.2.session;
          state_is = found.2.state_is;
          peer = found.2.peer;
          line_is = record {
            plain = plain;
            not_skipped = skipped;
            fields = found.0;
            fields_are = found.1;
            event_is = found.2.event_is;
          };
        }

pub stops_at_settle : (t : Transfer) → StopsAtChange text_rules first_phase t → StopsAtSettle t
stops_at_settle t at =
    let found = settle_line at.stops.state at.stop.line at.stop.valid at.changes in
    record {
      stops = at.stops;
      stop = at.stop;
      session = found.session;
      state_is = found.state_is;
      peer = found.peer;
      line_is = found.line_is;
    }
