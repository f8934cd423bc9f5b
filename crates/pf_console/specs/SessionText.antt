-- What the program does with the text of a session: what it writes, and how a call ends.
use Rattle.std.specs.Prelude.{◌≡◌, ◌⊎◌, ℕ, List, [], ◌++◌, Option, Some, None, Result, Ok, Err}
use Rattle.pf_text.specs.Driver.{Rules, StopsForMemory, StopsForRead, text_output}
use Rattle.pf_text.specs.Streams.{Transfer}
use Rattle.pf_shapes.specs.declared.fault.SceneFault.{SceneFault}
use Rattle.pf_shapes.specs.declared.fault.SceneFault.TheVariants.{BadLine}
use Rattle.pf_rollback.specs.declared.error.Refusal.{Refusal}
use Rattle.pf_console.specs.declared.error.ProgramError.{ProgramError}
use Rattle.pf_console.specs.declared.error.ProgramError.TheVariants.{Words, Line, Frame, Session, Memory, Crew, Read, Write}
use Rattle.pf_console.specs.declared.phase.Phase.{Phase}
use Rattle.pf_console.specs.declared.phase.Phase.TheVariants.{Reading, Seating, Playing}
use Rattle.pf_console.specs.Crews.{IsCrewErrorOfSession}
use Rattle.pf_console.specs.Phase.{first_phase, phase_rules}
use Rattle.pf_console.specs.Scripts.{Scripts, blocks_of, scripts_refusal, session_play}
use Rattle.pf_console.specs.Text.{StopsAt, WritesPrefix}

-- a session by its lines
abbrev pub session_rules : Rules (Phase Scripts) SceneFault
session_rules = phase_rules session_play

-- a text that ends before its peers is invalid at the line behind its last
abbrev pub scripts_at
    : Result (ℕ × Phase Scripts) (ℕ × SceneFault) → Result Scripts (ℕ × SceneFault)
scripts_at (Ok (number, Reading reader)) = Err (number, BadLine)
scripts_at (Ok (number, Seating scene)) = Err (number, BadLine)
scripts_at (Ok (number, Playing scripts)) = Ok scripts
scripts_at (Err fault) = Err fault

-- the scripts of a text, or the number and the error of its invalid line
unfoldable pub scripts_of : List ℕ → Result Scripts (ℕ × SceneFault)
scripts_of input = scripts_at (text_output session_rules first_phase input).ending

-- what is written, and the fault, if there is one
pub record SessionText : Type 0 where
  pub written : List ℕ
  pub fault : Option ProgramError

abbrev pub text_unless : List ℕ → Option Refusal → SessionText
text_unless blocks None = record { written = blocks; fault = None }
text_unless blocks (Some refusal) = record { written = []; fault = Some (Session refusal) }

abbrev pub text_of_scripts : Result Scripts (ℕ × SceneFault) → SessionText
text_of_scripts (Ok s) = text_unless (blocks_of s) (scripts_refusal s.scene s.scripts)
text_of_scripts (Err fault) = record { written = []; fault = Some (Line fault.0 fault.1) }

-- A text with an invalid line has that fault. Else the fault is the refusal in the script of the
-- least peer that has one; and where there is none the block of each peer is written.
abbrev pub session_text_of : List ℕ → SessionText
session_text_of input = text_of_scripts (scripts_of input)

-- ---- calls

-- nothing was written
abbrev pub WritesNothing : Transfer → Type 0
WritesNothing t = t.after ≡ Some t.before

-- how the lines of a text were read, before anything is written
abbrev pub ReadsScripts : Transfer → Result Scripts ProgramError → Type 0
ReadsScripts t (Ok scripts) = (t.left ≡ Some []) × (scripts_of t.input ≡ Ok scripts)
ReadsScripts t (Err (Line number fault)) =
    StopsAt session_rules t number × (scripts_of t.input ≡ Err (number, fault))
ReadsScripts t (Err Memory) = StopsForMemory session_rules first_phase t
ReadsScripts t (Err Read) = StopsForRead session_rules first_phase t
ReadsScripts t (Err other) = ⊥

-- how a session of scripts ends that writes nothing: its peers may have crews of so many workers
abbrev pub EndsBy : Option ℕ → Scripts → ProgramError → Type 0
EndsBy crew s (Session refusal) = scripts_refusal s.scene s.scripts ≡ Some refusal
EndsBy crew s (Crew error) = IsCrewErrorOfSession crew error
EndsBy crew s Memory = Unit {0}
EndsBy crew s other = ⊥

-- all of a text was read, and all its lines are valid
abbrev pub HasScripts : Transfer → Type 0
HasScripts t = (t.left ≡ Some []) × ((s : Scripts) × (scripts_of t.input ≡ Ok s))

-- How a call ended, and what it read and wrote. All of the text is read, up to the first invalid
-- line, before anything is written. Memory may run out at a valid line or behind all lines, and
-- threads fail behind all lines.
abbrev pub PlaysSession : Transfer → Result (Unit {0}) ProgramError → Type 0
PlaysSession t (Ok done) =
    (t.left ≡ Some []) × (t.after ≡ Some (t.before ++ (session_text_of t.input).written))
    × ((session_text_of t.input).fault ≡ None)
PlaysSession t (Err (Line number fault)) =
    StopsAt session_rules t number × WritesNothing t
    × ((session_text_of t.input).fault ≡ Some (Line number fault))
PlaysSession t (Err (Session refusal)) =
    (t.left ≡ Some []) × WritesNothing t
    × ((session_text_of t.input).fault ≡ Some (Session refusal))
PlaysSession t (Err Memory) =
    WritesNothing t × (StopsForMemory session_rules first_phase t ⊎ HasScripts t)
PlaysSession t (Err (Crew error)) = WritesNothing t × HasScripts t
PlaysSession t (Err Read) = WritesNothing t × StopsForRead session_rules first_phase t
PlaysSession t (Err Write) =
    (t.left ≡ Some []) × WritesPrefix t (session_text_of t.input).written
    × ((session_text_of t.input).fault ≡ None)
PlaysSession t (Err (Words text)) = ⊥
PlaysSession t (Err (Frame fault)) = ⊥
