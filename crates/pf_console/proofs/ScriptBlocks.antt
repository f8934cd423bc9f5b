-- The blocks of a session's results are those of its text.
use Rattle.std.proofs.Common.{◌≡◌, ◌∙◌, ℕ, ◌+◌, List, [], ◌∷◌, ◌++◌, map, refl, ap, sym}
use Rattle.std.specs.Prelude.{fold, sum_by}
use Rattle.std.specs.FinMap.{empty}
use Rattle.std.specs.List.{flat_map}
use Rattle.pf_shapes.specs.Scene.{Scene}
use Rattle.pf_commands.specs.Merge.{CommandMap, put_all}
use Rattle.pf_links.specs.Link.{Frame}
use Rattle.pf_scripts.specs.Frames.{commands_in}
use Rattle.pf_scripts.specs.Script.{script_frames, script_ticks, frames_in}
use Rattle.pf_scripts.specs.declared.turn.Turn.{Turn}
use Rattle.pf_sessions.specs.Session.{unsealed, all_commands, results_from, session_results}
use Rattle.pf_console.specs.Blocks.{result_block}
use Rattle.pf_console.specs.Scripts.{blocks_from, blocks_of, scripted_commands}
use Rattle.pf_console.specs.Turns.{said_by}
use Rattle.pf_console.specs.Turns as texts

same_ticks_from : (ticks : ℕ) (script : List Turn)
    → fold (λ a (turn : texts.Turn). a + turn.ticks) ticks (map said_by script) ≡ fold (λ a (turn : Turn). a + turn.ticks) ticks script
same_ticks_from ticks [] = refl
same_ticks_from ticks (turn ∷ script) = same_ticks_from (ticks + turn.ticks) script

same_ticks : (script : List Turn) → sum_by (λ (turn : texts.Turn). turn.ticks) (map said_by script) ≡ script_ticks script
same_ticks script = same_ticks_from 0 script

same_frames : (script : List Turn) → flat_map (λ (turn : texts.Turn). turn.frames) (map said_by script) ≡ script_frames script
same_frames [] = refl
same_frames (turn ∷ script) = ap (λ frames. frames_in turn ++ frames) (same_frames script)

same_all_frames : (scripts : List (List Turn))
    → flat_map (λ (script : List texts.Turn). flat_map (λ (turn : texts.Turn). turn.frames) script) (map (map said_by) scripts) ≡ flat_map script_frames scripts
same_all_frames [] = refl
same_all_frames (script ∷ scripts) = rw (same_frames script, same_all_frames scripts) refl

same_commands : (s : Scene) (scripts : List (List Turn)) → scripted_commands s (map (map said_by) scripts) ≡ all_commands s scripts
same_commands s scripts = ap (λ (frames : List Frame). put_all empty (commands_in (unsealed s) frames)) (same_all_frames scripts)

blocks_are : (s : Scene) (commands : CommandMap) (first : ℕ) (scripts : List (List Turn))
    → flat_map (result_block s.fixtures) (results_from s commands first scripts) ≡ blocks_from s commands first (map (map said_by) scripts)
unfolding results_from blocks_from
blocks_are s commands first [] = refl
blocks_are s commands first (script ∷ scripts) = rw (same_ticks script, blocks_are s commands (first + 1) scripts) refl

pub session_blocks : (s : Scene) (scripts : List (List Turn))
    → flat_map (result_block s.fixtures) (session_results s scripts)
    ≡ blocks_of (record { scene = s; scripts = map (map said_by) scripts })
session_blocks s scripts =
    blocks_are s (all_commands s scripts) 0 scripts
    ∙ ap (λ (commands : CommandMap). blocks_from s commands 0 (map (map said_by) scripts)) (sym (same_commands s scripts))
