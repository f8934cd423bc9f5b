-- The first refusal in the scripts of a text is the fault of their session.
use Rattle.std.proofs.Common.{◌≡◌, ◌∙◌, ℕ, ◌+◌, Bool, true, false, List, [], ◌∷◌, Option, Some, None, map, refl, ap, sym}
use Rattle.std.specs.Prelude.{nat_le, option_map, if◌then◌else◌}
use Rattle.pf_shapes.specs.Scene.{Scene}
use Rattle.pf_step.specs.Meter.{saturating_sum}
use Rattle.pf_commands.specs.declared.name.TheConstants.{MAX_TICK}
use Rattle.pf_links.specs.Link.{Frame}
use Rattle.pf_rollback.specs.declared.error.Refusal.{Refusal}
use Rattle.pf_rollback.specs.declared.error.Refusal.TheVariants.{TickLimit}
use Rattle.pf_scripts.specs.Frames.{refusal_of}
use Rattle.pf_scripts.specs.Script.{first_fault, frame_fault, frames_in, place_after, script_fault, tick_fault, turn_fault}
use Rattle.pf_scripts.specs.declared.error.SessionError.{SessionError}
use Rattle.pf_scripts.specs.declared.error.SessionError.TheVariants as errors
use Rattle.pf_scripts.specs.declared.turn.Turn.{Turn}
use Rattle.pf_sessions.specs.Session.{session_fault, unsealed}
use Rattle.pf_console.specs.Blocks.{fault_of}
use Rattle.pf_console.specs.Scripts.{first_of, frames_refusal, script_refusal, scripts_refusal, ticks_refusal}
use Rattle.pf_console.specs.Turns.{said_by}
use Rattle.pf_console.specs.declared.error.ProgramError.TheVariants.{Session}

-- a refusal is what the program makes of a fault
abbrev pub Tells : Option SessionError → Option Refusal → Type 0
Tells fault refusal = option_map fault_of fault ≡ option_map Session refusal

first_tells : (a b : Option SessionError) (c d : Option Refusal) → Tells a c → Tells b d → Tells (first_fault a b) (first_of c d)
first_tells (Some fault) b (Some refusal) d first later = first
first_tells (Some fault) b None d first later = absurd cc
first_tells None b (Some refusal) d first later = absurd cc
first_tells None b None d first later = later

frame_tells : (peer place : ℕ) (refusal : Option Refusal) → Tells (option_map (errors.Frame peer place) refusal) refusal
frame_tells peer place (Some refusal) = refl
frame_tells peer place None = refl

frames_tell : (s : Scene) (peer place : ℕ) (frames : List Frame) → Tells (frame_fault (unsealed s) peer place frames) (frames_refusal s frames)
unfolding frame_fault frames_refusal
frames_tell s peer place [] = refl
frames_tell s peer place (frame ∷ frames) =
    first_tells (option_map (errors.Frame peer place) (refusal_of (unsealed s) frame)) (frame_fault (unsealed s) peer (saturating_sum place 1) frames)
    (refusal_of (unsealed s) frame) (frames_refusal s frames)
    (frame_tells peer place (refusal_of (unsealed s) frame)) (frames_tell s peer (saturating_sum place 1) frames)

ticks_tell : (peer reached ticks : ℕ) → Tells (tick_fault peer reached ticks) (ticks_refusal reached ticks)
ticks_tell peer reached ticks = by (nat_le (reached + ticks) MAX_TICK)
  where
    by : (fits : Bool) → Tells (if fits then None else Some (errors.TickLimit peer)) (if fits then None else Some TickLimit)
    by true = refl
    by false = refl

script_tells : (s : Scene) (peer place reached : ℕ) (turns : List Turn)
    → Tells (script_fault (unsealed s) peer place reached turns) (script_refusal s reached (map said_by turns))
unfolding script_fault script_refusal
script_tells s peer place reached [] = refl
script_tells s peer place reached (turn ∷ turns) =
    first_tells (turn_fault (unsealed s) peer place reached turn)
    (script_fault (unsealed s) peer (place_after place (frames_in turn)) (reached + turn.ticks) turns)
    (first_of (frames_refusal s (frames_in turn)) (ticks_refusal reached turn.ticks))
    (script_refusal s (reached + turn.ticks) (map said_by turns))
    (first_tells (frame_fault (unsealed s) peer place (frames_in turn)) (tick_fault peer reached turn.ticks)
    (frames_refusal s (frames_in turn)) (ticks_refusal reached turn.ticks)
    (frames_tell s peer place (frames_in turn)) (ticks_tell peer reached turn.ticks))
    (script_tells s peer (place_after place (frames_in turn)) (reached + turn.ticks) turns)

pub session_tells : (s : Scene) (first : ℕ) (scripts : List (List Turn))
    → Tells (session_fault s first scripts) (scripts_refusal s (map (map said_by) scripts))
unfolding session_fault scripts_refusal
session_tells s first [] = refl
session_tells s first (script ∷ scripts) =
    first_tells (script_fault (unsealed s) first 0 0 script) (session_fault s (first + 1) scripts)
    (script_refusal s 0 (map said_by script)) (scripts_refusal s (map (map said_by) scripts))
    (script_tells s first 0 0 script) (session_tells s (first + 1) scripts)

-- scripts without a fault are not refused
pub none_refused : (s : Scene) (scripts : List (List Turn)) → session_fault s 0 scripts ≡ None
    → scripts_refusal s (map (map said_by) scripts) ≡ None
none_refused s scripts none = by (scripts_refusal s (map (map said_by) scripts)) (sym (session_tells s 0 scripts) ∙ ap (option_map fault_of) none)
  where
    by : (refusal : Option Refusal) → option_map Session refusal ≡ None → refusal ≡ None
    by None is = refl
    by (Some refusal) is = absurd cc

-- a fault of a script is reported as its refusal
pub some_refused : (s : Scene) (scripts : List (List Turn)) (fault : SessionError) → session_fault s 0 scripts ≡ Some fault
    → (refusal : Refusal) × (scripts_refusal s (map (map said_by) scripts) ≡ Some refusal) × (fault_of fault ≡ Session refusal)
some_refused s scripts fault some = by (scripts_refusal s (map (map said_by) scripts)) (sym (session_tells s 0 scripts) ∙ ap (option_map fault_of) some)
  where
    by : (refusal : Option Refusal) → option_map Session refusal ≡ Some (fault_of fault)
        → (found : Refusal) × (refusal ≡ Some found) × (fault_of fault ≡ Session found)
    by None is = absurd cc
    by (Some refusal) is = (refusal, refl, cc)
