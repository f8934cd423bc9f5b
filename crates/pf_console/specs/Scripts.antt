-- The scripts of a session's text, and what the session of them shows.
use Rattle.std.specs.Prelude.{ℕ, ◌+◌, false, List, [], ◌∷◌, ◌++◌, Option, Some, None, Result, Ok, Err, length, nat_le, replicate, slice_index_or, slice_set, sum_by, if◌then◌else◌}
use Rattle.std.specs.FinMap.{empty}
use Rattle.std.specs.List.{flat_map}
use Rattle.pf_text.specs.declared.fault.LineFault.{LineFault}
use Rattle.pf_text.specs.declared.fault.LineError.{LineError}
use Rattle.pf_text.specs.declared.fault.LineError.TheVariants as errors
use Rattle.pf_text.specs.declared.driver.TakeError.{TakeError}
use Rattle.pf_text.specs.declared.driver.TakeError.TheVariants as take_errors
use Rattle.pf_shapes.specs.declared.fault.SceneFault.{SceneFault}
use Rattle.pf_shapes.specs.Fault.{scene_fault_of}
use Rattle.pf_shapes.specs.Scene.{Scene}
use Rattle.pf_commands.specs.Merge.{CommandMap, put_all}
use Rattle.pf_commands.specs.declared.name.TheConstants.{MAX_TICK}
use Rattle.pf_links.specs.Link.{Frame}
use Rattle.pf_rollback.specs.declared.error.Refusal.{Refusal}
use Rattle.pf_rollback.specs.declared.error.Refusal.TheVariants.{TickLimit}
use Rattle.pf_scripts.specs.Frames.{commands_in, refusal_of}
use Rattle.pf_sessions.specs.Session.{unsealed}
use Rattle.pf_step.specs.Simulation.{sim}
use Rattle.pf_console.specs.PlayRules.{PlayRules}
use Rattle.pf_console.specs.Print.{block_text}
use Rattle.pf_console.specs.Turns.{Turn, turn_of}

-- a scene, and the script of each peer by its number
pub record Scripts : Type 0 where
  pub scene : Scene
  pub scripts : List (List Turn)

-- ---- lines

-- so many peers without turns
abbrev pub new_scripts : Scene → ℕ → Scripts
new_scripts scene count = record { scene = scene; scripts = replicate count [] }

-- a peer has one turn more, its last
abbrev pub with_turn : List (List Turn) → ℕ × Turn → List (List Turn)
with_turn scripts added =
    slice_set scripts added.0 (slice_index_or scripts added.0 [] ++ added.1 ∷ [])

-- a turn has no reply
abbrev pub after_turn : Scripts → Result (ℕ × Turn) LineFault → Result (List ℕ × Scripts) SceneFault
after_turn s (Ok added) = Ok ([], record s { scripts = with_turn s.scripts added })
after_turn s (Err fault) = Err (scene_fault_of fault)

-- why a line of a turn was not taken
abbrev pub take_error_of_line : LineError → TakeError SceneFault
take_error_of_line errors.Memory = take_errors.Memory
take_error_of_line (errors.Fault fault) = take_errors.Fault (scene_fault_of fault)

-- peers without turns, and then lines of turns, which change nothing that they are lent
abbrev pub session_play : PlayRules Scripts
session_play = record {
  begin = new_scripts;
  after = λ s fields. after_turn s (turn_of (length s.scripts) fields);
  changes_lent = λ s fields. false;
}

-- ---- scripts that are refused

abbrev pub first_of : Option Refusal → Option Refusal → Option Refusal
first_of (Some refusal) later = Some refusal
first_of None later = later

-- why peers of the scene refuse the first of these frames that they refuse, if they refuse one
unfoldable pub frames_refusal : Scene → List Frame → Option Refusal
frames_refusal s [] = None
frames_refusal s (frame ∷ frames) =
    first_of (refusal_of (unsealed s) frame) (frames_refusal s frames)

-- going on by so many ticks from this one is refused where it passes the last tick
abbrev pub ticks_refusal : ℕ → ℕ → Option Refusal
ticks_refusal reached ticks =
    if nat_le (reached + ticks) MAX_TICK then None else Some TickLimit

-- the first refusal in a script, turn by turn, of a peer that has reached this tick
unfoldable pub script_refusal : Scene → ℕ → List Turn → Option Refusal
script_refusal s reached [] = None
script_refusal s reached (turn ∷ turns) =
    first_of (first_of (frames_refusal s turn.frames) (ticks_refusal reached turn.ticks))
    (script_refusal s (reached + turn.ticks) turns)

-- that of the least peer whose script has one
unfoldable pub scripts_refusal : Scene → List (List Turn) → Option Refusal
scripts_refusal s [] = None
scripts_refusal s (script ∷ scripts) =
    first_of (script_refusal s 0 script) (scripts_refusal s scripts)

-- ---- what is shown

-- the commands of all scripts, merged
abbrev pub scripted_commands : Scene → List (List Turn) → CommandMap
scripted_commands s scripts =
    put_all empty (commands_in (unsealed s)
    (flat_map (λ script. flat_map (λ turn. turn.frames) script) scripts))

-- each peer's block at the sum of its own ticks, of the simulation from tick zero of these
-- commands; the first script is that of the peer of this number
unfoldable pub blocks_from : Scene → CommandMap → ℕ → List (List Turn) → List ℕ
blocks_from s commands first [] = []
blocks_from s commands first (script ∷ scripts) =
    (let ticks = sum_by (λ turn. turn.ticks) script in
    block_text s.fixtures first ticks (sim s commands ticks))
    ++ blocks_from s commands (first + 1) scripts

-- the blocks of all peers
abbrev pub blocks_of : Scripts → List ℕ
blocks_of s = blocks_from s.scene (scripted_commands s.scene s.scripts) 0 s.scripts
