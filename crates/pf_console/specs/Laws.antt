-- What laws of texts speak of.
use Rattle.std.specs.Prelude.{ℕ, List, [], ◌∷◌, Result, Ok, Err}
use Rattle.std.specs.List.{flat_map}
use Rattle.pf_text.specs.Driver.{Output}
use Rattle.pf_shapes.specs.declared.fault.SceneFault.{SceneFault}
use Rattle.pf_events.specs.declared.event.Event.{Event}
use Rattle.pf_events.specs.Session.{Session, replies_to, session_after_all}
use Rattle.pf_console.specs.declared.error.ProgramError.{ProgramError}
use Rattle.pf_console.specs.declared.error.ProgramError.TheVariants.{Line}
use Rattle.pf_console.specs.declared.error.ProgramError.TheVariants as errors
use Rattle.pf_console.specs.declared.phase.Phase.{Phase}
use Rattle.pf_console.specs.declared.phase.Phase.TheVariants.{Playing}
use Rattle.pf_console.specs.Grammar.{IsLineOf}
use Rattle.pf_console.specs.Print.{reply_text}

-- each line encodes its event
abbrev pub AreLinesOf : ℕ → List (List ℕ) → List Event → Type 0
AreLinesOf peers [] [] = Unit {0}
AreLinesOf peers (line ∷ lines) (event ∷ events) =
    IsLineOf peers line event × AreLinesOf peers lines events
AreLinesOf peers [] (event ∷ events) = ⊥
AreLinesOf peers (line ∷ lines) [] = ⊥

-- the replies to events, printed, and the session after them, before the line of this number
abbrev pub session_output : ℕ → Session → List Event → Output (Phase Session) SceneFault
session_output number s events = record {
  text = flat_map (reply_text s.scene.fixtures) (replies_to s events);
  ending = Ok (number, Playing (session_after_all s events));
}

-- nothing failed: a text came to its end or to its first invalid line, or a script of it is refused
abbrev pub NothingFailed : Result (Unit {0}) ProgramError → Type 0
NothingFailed (Ok done) = Unit {0}
NothingFailed (Err (Line number fault)) = Unit {0}
NothingFailed (Err (errors.Session refusal)) = Unit {0}
NothingFailed (Err other) = ⊥
