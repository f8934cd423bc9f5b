-- What the lines of a text mean, one after the other: first a scene, then its peers, then what is
-- played.
use Rattle.std.specs.Prelude.{ℕ, ℤ, pos, Bool, true, false, List, [], ◌∷◌, None, Result, Ok, Err, codes, if◌then◌else◌}
use Rattle.std.specs.Int.RustNames.{unsigned_abs}
use Rattle.std.specs.Str.{bytes_eq}
use Rattle.pf_text.specs.declared.fault.LineFault.{LineFault}
use Rattle.pf_text.specs.Numbers.{whole_of, integer}
use Rattle.pf_text.specs.Driver.{Rules}
use Rattle.pf_shapes.specs.declared.fault.SceneFault.{SceneFault}
use Rattle.pf_shapes.specs.declared.fault.SceneFault.TheVariants.{BadLine}
use Rattle.pf_shapes.specs.declared.reader.Progress.{Progress}
use Rattle.pf_shapes.specs.declared.reader.Progress.TheVariants.{More, Ended}
use Rattle.pf_shapes.specs.declared.scene.TheConstants.{MAX_BODIES}
use Rattle.pf_shapes.specs.Fault.{scene_fault_of}
use Rattle.pf_shapes.specs.Scene.{Scene}
use Rattle.pf_shapes.specs.SceneText.{is_body_line, line_of}
use Rattle.pf_console.specs.declared.phase.Phase.{Phase}
use Rattle.pf_console.specs.declared.phase.Phase.TheVariants.{Reading, Seating, Playing}
use Rattle.pf_console.specs.declared.phase.TheConstants.{MAX_TEXT_PEERS}
use Rattle.pf_console.specs.PlayRules.{PlayRules}

-- the text of a reply with the next phase, or the error of an invalid line
abbrev pub Transition : Type 0 → Type 0
Transition B = Result (List ℕ × Phase B) SceneFault

-- a line of a scene has no reply
abbrev pub after_scene_line : {B : Type 0} → Result Progress SceneFault → Transition B
after_scene_line (Ok (More reader)) = Ok ([], Reading reader)
after_scene_line (Ok (Ended scene)) = Ok ([], Seating scene)
after_scene_line (Err fault) = Err fault

abbrev pub as_count : Result ℤ LineFault → Result ℕ SceneFault
as_count (Ok count) = Ok (unsigned_abs count)
as_count (Err fault) = Err (scene_fault_of fault)

-- the number of peers in `peers N`
unfoldable pub peer_count_of : List (List ℕ) → Result ℕ SceneFault
peer_count_of (word ∷ count ∷ []) =
    if bytes_eq word (codes "peers")
    then as_count (integer (pos 1) (pos MAX_TEXT_PEERS) (whole_of count)) else Err BadLine
peer_count_of fields = Err BadLine

-- what so many peers begin
abbrev pub with_peers
    : {B : Type 0} → PlayRules B → Scene → Result ℕ SceneFault → Transition B
with_peers play scene (Ok count) = Ok ([], Playing (play.begin scene count))
with_peers play scene (Err fault) = Err fault

-- the reply to a line behind the peers
abbrev pub after_play_line : {B : Type 0} → Result (List ℕ × B) SceneFault → Transition B
after_play_line (Ok reply) = Ok (reply.0, Playing reply.1)
after_play_line (Err fault) = Err fault

-- the text of a line's reply, and the phase after the line
unfoldable pub after_line
    : {B : Type 0} → PlayRules B → Phase B → List (List ℕ) → Transition B
after_line play (Reading reader) fields = after_scene_line (line_of reader fields)
after_line play (Seating scene) fields = with_peers play scene (peer_count_of fields)
after_line play (Playing begun) fields = after_play_line (play.after begun fields)

-- the lines of a scene take memory only for bodies
unfoldable pub takes_memory : {B : Type 0} → Phase B → List (List ℕ) → Bool
takes_memory (Reading reader) fields = is_body_line fields
takes_memory (Seating scene) fields = true
takes_memory (Playing begun) fields = true

-- only what is played may change what its lines are lent
unfoldable pub may_change_lent : {B : Type 0} → PlayRules B → Phase B → List (List ℕ) → Bool
may_change_lent play (Reading reader) fields = false
may_change_lent play (Seating scene) fields = false
may_change_lent play (Playing begun) fields = play.changes_lent begun fields

-- a text by its lines
abbrev pub phase_rules : {B : Type 0} → PlayRules B → Rules (Phase B) SceneFault
phase_rules play = record {
  transition = after_line play;
  line_error = scene_fault_of;
  allocates = takes_memory;
  changes_lent = may_change_lent play;
}

-- a text begins with a scene
abbrev pub first_phase : {B : Type 0} → Phase B
first_phase = Reading (record { max_bodies = MAX_BODIES; scene = None })
