-- A text that holds a scene and nothing else.
use Rattle.std.specs.Prelude.{◌≡◌, ℕ, Bool, false, List, None, Result, Ok, Err}
use Rattle.pf_text.specs.Driver.{Rules, StopsForMemory, without_output, text_output}
use Rattle.pf_text.specs.Streams.{Transfer}
use Rattle.pf_shapes.specs.declared.fault.SceneFault.{SceneFault}
use Rattle.pf_shapes.specs.declared.fault.SceneFault.TheVariants.{BadLine}
use Rattle.pf_shapes.specs.declared.reader.Progress.{Progress}
use Rattle.pf_shapes.specs.declared.reader.Progress.TheVariants.{More, Ended}
use Rattle.pf_shapes.specs.declared.read.ReadError.{ReadError}
use Rattle.pf_shapes.specs.declared.read.ReadError.TheVariants.{Memory, Line}
use Rattle.pf_shapes.specs.declared.scene.TheConstants.{MAX_BODIES}
use Rattle.pf_shapes.specs.Fault.{scene_fault_of}
use Rattle.pf_shapes.specs.Scene.{Scene}
use Rattle.pf_shapes.specs.SceneText.{is_body_line, line_of}

-- no line has output, and only skipped lines follow the scene's end
unfoldable pub transition : Progress → List (List ℕ) → Result (List ℕ × Progress) SceneFault
transition (More reader) fields = without_output (line_of reader fields)
transition (Ended scene) fields = Err BadLine

-- only the line of a body takes memory
unfoldable pub allocates : Progress → List (List ℕ) → Bool
allocates (More reader) fields = is_body_line fields
allocates (Ended scene) fields = false

-- a scene's text by its lines, which are lent nothing that they may change
abbrev pub scene_rules : Rules Progress SceneFault
scene_rules = record {
  transition = transition;
  line_error = scene_fault_of;
  allocates = allocates;
  changes_lent = λ state fields. false;
}

-- a text begins with a scene of at most `MAX_BODIES`
abbrev pub opening : Progress
opening = More (record { max_bodies = MAX_BODIES; scene = None })

-- a scene that has no end is invalid at the line behind the last
abbrev pub scene_at_end : Result (ℕ × Progress) (ℕ × SceneFault) → Result Scene (ℕ × SceneFault)
scene_at_end (Ok (number, Ended scene)) = Ok scene
scene_at_end (Ok (number, More reader)) = Err (number, BadLine)
scene_at_end (Err fault) = Err fault

-- the scene that a text encodes, or the number and the error of its first invalid line
unfoldable pub scene_of : List ℕ → Result Scene (ℕ × SceneFault)
scene_of input = scene_at_end (text_output scene_rules opening input).ending

-- a reader of the text ran out of memory at the valid line of a body, behind valid lines
pub record OutOfMemoryIn (text : List ℕ) : Type 0 where
  pub transfer : Transfer
  pub input_is : transfer.input ≡ text
  pub stops : StopsForMemory scene_rules opening transfer

-- the scene of the text, or its first invalid line; or memory ran out at the line of a body before
-- that
abbrev pub ReadsScene : List ℕ → Result Scene ReadError → Type 0
ReadsScene text (Ok scene) = scene_of text ≡ Ok scene
ReadsScene text (Err (Line number fault)) = scene_of text ≡ Err (number, fault)
ReadsScene text (Err Memory) = OutOfMemoryIn text
