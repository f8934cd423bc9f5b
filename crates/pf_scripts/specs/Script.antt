-- Scripts of turns, and the first fault of a script.
use Rattle.std.specs.Prelude.{ℕ, ◌+◌, List, [], ◌∷◌, Option, Some, None, Vec, map, nat_le, option_map, sum_by, if◌then◌else◌}
use Rattle.std.specs.Global.{Global}
use Rattle.std.specs.List.{flat_map}
use Rattle.pf_step.specs.Meter.{saturating_sum}
use Rattle.pf_commands.specs.declared.name.TheConstants.{MAX_TICK}
use Rattle.pf_links.specs.Link.{Frame}
use Rattle.pf_scripts.specs.Frames.{Setting, refusal_of}
use Rattle.pf_scripts.specs.declared.error.SessionError.{SessionError}
use Rattle.pf_scripts.specs.declared.error.SessionError.TheVariants as errors
use Rattle.pf_scripts.specs.declared.turn.Turn.{Turn}

-- the bytes of each frame
abbrev pub frame_bytes : List (Vec ℕ Global) → List Frame
frame_bytes frames = map (λ frame. frame.items) frames

-- the frames of a turn
abbrev pub frames_in : Turn → List Frame
frames_in turn = frame_bytes turn.frames.items

-- the frames of a script, in their order
abbrev pub script_frames : List Turn → List Frame
script_frames script = flat_map frames_in script

-- by how many ticks a script goes on
abbrev pub script_ticks : List Turn → ℕ
script_ticks script = sum_by (λ turn. turn.ticks) script

-- the first of two faults
abbrev pub first_fault : Option SessionError → Option SessionError → Option SessionError
first_fault (Some fault) later = Some fault
first_fault None later = later

-- the fault of the first of these frames that the peer refuses, if it refuses one;
-- `place` is the number of the first frame in the script
unfoldable pub frame_fault : Setting → ℕ → ℕ → List Frame → Option SessionError
frame_fault s peer place [] = None
frame_fault s peer place (frame ∷ frames) =
    first_fault (option_map (errors.Frame peer place) (refusal_of s frame))
    (frame_fault s peer (saturating_sum place 1) frames)

-- the fault of going on by so many ticks, if that passes the last tick
abbrev pub tick_fault : ℕ → ℕ → ℕ → Option SessionError
tick_fault peer reached ticks =
    if nat_le (reached + ticks) MAX_TICK then None else Some (errors.TickLimit peer)

-- the number behind that of the last of these frames, where the first has this one
unfoldable pub place_after : ℕ → List Frame → ℕ
place_after place [] = place
place_after place (frame ∷ frames) = place_after (saturating_sum place 1) frames

-- the first fault of a turn of a peer that has reached this tick
abbrev pub turn_fault : Setting → ℕ → ℕ → ℕ → Turn → Option SessionError
turn_fault s peer place reached turn =
    first_fault (frame_fault s peer place (frames_in turn)) (tick_fault peer reached turn.ticks)

-- the first fault of a script, turn by turn
unfoldable pub script_fault : Setting → ℕ → ℕ → ℕ → List Turn → Option SessionError
script_fault s peer place reached [] = None
script_fault s peer place reached (turn ∷ turns) =
    first_fault (turn_fault s peer place reached turn)
    (script_fault s peer (place_after place (frames_in turn)) (reached + turn.ticks) turns)
