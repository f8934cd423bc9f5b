-- The lines of a session have no replies.
use Rattle.std.proofs.Common.{◌≡◌, ◌∙◌, ℕ, ◌+◌, Bool, true, false, List, [], ◌∷◌, ◌++◌, length, Some, Result, Ok, Err, refl, ap, sym, subst, if◌then◌else◌, ◌<◌, arith}
use Rattle.std.proofs.lemmas.List.{append-nil}
use Rattle.pf_text.specs.declared.fault.LineFault.{LineFault}
use Rattle.pf_text.specs.declared.fault.LineFault.TheVariants.{BadLine}
use Rattle.pf_text.specs.Driver.{Output, LeadTo, StopsForMemory, StopsForRead, StopsForWrite, and_then, fields_step, is_plain, is_skipped, lines_output, line_step}
use Rattle.pf_text.specs.Fields.{fields_of}
use Rattle.pf_text.specs.Streams.{Transfer}
use Rattle.pf_shapes.specs.declared.fault.SceneFault.{SceneFault}
use Rattle.pf_shapes.specs.declared.reader.Progress.{Progress}
use Rattle.pf_shapes.specs.declared.reader.Progress.TheVariants.{More, Ended}
use Rattle.pf_shapes.specs.Fault.{scene_fault_of}
use Rattle.pf_shapes.specs.Scene.{Scene}
use Rattle.pf_shapes.specs.SceneText.{line_of}
use Rattle.pf_console.specs.declared.phase.Phase.{Phase}
use Rattle.pf_console.specs.declared.phase.Phase.TheVariants.{Reading, Seating, Playing}
use Rattle.pf_console.specs.Phase.{Transition, after_line, after_play_line, after_scene_line, first_phase, peer_count_of, with_peers}
use Rattle.pf_console.specs.Scripts.{Scripts, after_turn, session_play}
use Rattle.pf_console.specs.SessionText.{WritesNothing, session_rules}
use Rattle.pf_console.specs.Turns.{Turn, turn_of}

-- a transition that has no text
abbrev IsQuiet : Transition Scripts → Type 0
IsQuiet (Ok reply) = reply.0 ≡ []
IsQuiet (Err fault) = Unit {0}

scene_quiet : (read : Result Progress SceneFault) → IsQuiet (after_scene_line read)
scene_quiet (Ok (More reader)) = refl
scene_quiet (Ok (Ended scene)) = refl
scene_quiet (Err fault) = tt

peers_quiet : (scene : Scene) (count : Result ℕ SceneFault) → IsQuiet (with_peers session_play scene count)
peers_quiet scene (Ok count) = refl
peers_quiet scene (Err fault) = tt

turn_quiet : (s : Scripts) (added : Result (ℕ × Turn) LineFault) → IsQuiet (after_play_line (after_turn s added))
turn_quiet s (Ok added) = refl
turn_quiet s (Err fault) = tt

line_quiet : (state : Phase Scripts) (fields : List (List ℕ)) → IsQuiet (after_line session_play state fields)
unfolding after_line
line_quiet (Reading reader) fields = scene_quiet (line_of reader fields)
line_quiet (Seating scene) fields = peers_quiet scene (peer_count_of fields)
line_quiet (Playing s) fields = turn_quiet s (turn_of (length s.scripts) fields)

fields_quiet : (state : Phase Scripts) (fields : Result (List (List ℕ)) LineFault) → IsQuiet (fields_step session_rules state fields)
fields_quiet state (Ok fields) = line_quiet state fields
fields_quiet state (Err fault) = tt

step_quiet : (state : Phase Scripts) (line : List ℕ) → IsQuiet (line_step session_rules state line)
unfolding line_step
step_quiet state line = by (is_plain line) (is_skipped line)
  where
    by : (plain skipped : Bool) → IsQuiet (if plain then (if skipped then Ok ([], state) else fields_step session_rules state (fields_of line)) else Err (scene_fault_of BadLine))
    by true true = refl
    by true false = fields_quiet state (fields_of line)
    by false skipped = tt

-- a line that is valid has no text
pub no_text : (state next : Phase Scripts) (line text : List ℕ) → line_step session_rules state line ≡ Ok (text, next) → text ≡ []
no_text state next line text is = subst IsQuiet is (step_quiet state line)

and_then_quiet : (number : ℕ) (reply : Transition Scripts) (others : Phase Scripts → Output (Phase Scripts) SceneFault) → IsQuiet reply
    → ((next : Phase Scripts) → (others next).text ≡ []) → (and_then number reply others).text ≡ []
and_then_quiet number (Ok reply) others quiet rest = rw (quiet, rest reply.1) refl
and_then_quiet number (Err fault) others quiet rest = refl

pub lines_quiet : (number : ℕ) (state : Phase Scripts) (lines : List (List ℕ)) → (lines_output session_rules number state lines).text ≡ []
unfolding lines_output
lines_quiet number state [] = refl
lines_quiet number state (line ∷ lines) =
    and_then_quiet number (line_step session_rules state line) (λ next. lines_output session_rules (number + 1) next lines)
    (step_quiet state line) (λ next. lines_quiet (number + 1) next lines)

-- what was written behind the bytes before is nothing
pub nothing_more : (t : Transfer) (text : List ℕ) → text ≡ [] → t.after ≡ Some (t.before ++ text) → WritesNothing t
nothing_more t text none after = after ∙ ap (λ (more : List ℕ). Some (t.before ++ more)) none ∙ ap (λ (bytes : List ℕ). Some bytes) (append-nil t.before)

lead_quiet : (lines : List (List ℕ)) (text : List ℕ) (state : Phase Scripts) → LeadTo session_rules first_phase lines text state → text ≡ []
lead_quiet lines text state lead =
    sym (ap (λ (o : Output (Phase Scripts) SceneFault). o.text) lead) ∙ lines_quiet 1 first_phase lines

pub memory_quiet : (t : Transfer) → StopsForMemory session_rules first_phase t → WritesNothing t
memory_quiet t stops = nothing_more t stops.text (lead_quiet stops.lines stops.text stops.state stops.valid) stops.after_is

pub read_quiet : (t : Transfer) → StopsForRead session_rules first_phase t → WritesNothing t
read_quiet t stops = nothing_more t stops.text (lead_quiet stops.lines stops.text stops.state stops.valid) stops.after_is

-- so no writer fails
pub never_writes : (t : Transfer) → StopsForWrite session_rules first_phase t → ⊥
never_writes t stops =
    let none : stops.part ++ stops.unwritten ≡ [] = no_text stops.state stops.next stops.line (stops.part ++ stops.unwritten) stops.reply in
    let some : 0 < length (stops.part ++ stops.unwritten) = stops.some in
    absurd (omega (arith, ap length none))
