-- What the program does with a text: what it writes, and the invalid line, if any.
use Rattle.std.specs.Prelude.{◌≡◌, ◌⊎◌, ℕ, ◌+◌, List, [], ◌++◌, length, Option, Some, None, Result, Ok, Err, IsOk}
use Rattle.pf_text.specs.Driver.{Rules, TakesLine, StopsAtValidLine, StopsForMemory, StopsForRead, StopsForWrite, text_output}
use Rattle.pf_text.specs.Streams.{Transfer}
use Rattle.pf_text.specs.declared.driver.DriveError.{DriveError}
use Rattle.pf_text.specs.declared.driver.DriveError.TheVariants as drives
use Rattle.pf_events.specs.declared.event.Event.TheVariants.{Settle}
use Rattle.pf_events.specs.Session as peers
use Rattle.pf_shapes.specs.declared.fault.SceneFault.{SceneFault}
use Rattle.pf_shapes.specs.declared.fault.SceneFault.TheVariants.{BadLine}
use Rattle.pf_console.specs.declared.error.ProgramError.{ProgramError}
use Rattle.pf_console.specs.declared.error.ProgramError.TheVariants.{Words, Line, Frame, Session, Memory, Crew, Read, Write}
use Rattle.pf_console.specs.declared.phase.Phase.{Phase}
use Rattle.pf_console.specs.declared.phase.Phase.TheVariants.{Reading, Seating, Playing}
use Rattle.pf_console.specs.Grammar.{IsLineOf}
use Rattle.pf_console.specs.Phase.{first_phase}
use Rattle.pf_console.specs.Run.{text_rules}

-- what is written, and the number and the error of the invalid line, if any
pub record Text : Type 0 where
  pub written : List ℕ
  pub fault : Option (ℕ × SceneFault)

-- a text that ends before its peers is invalid at the line behind its last
abbrev pub fault_of_ending
    : {B : Type 0} → Result (ℕ × Phase B) (ℕ × SceneFault) → Option (ℕ × SceneFault)
fault_of_ending (Ok (number, Reading reader)) = Some (number, BadLine)
fault_of_ending (Ok (number, Seating scene)) = Some (number, BadLine)
fault_of_ending (Ok (number, Playing begun)) = None
fault_of_ending (Err fault) = Some fault

-- the output for a text's lines, up to the first that is invalid
unfoldable pub text_of : List ℕ → Text
text_of input = record {
  written = (text_output text_rules first_phase input).text;
  fault = fault_of_ending (text_output text_rules first_phase input).ending;
}

-- what the end of a text's lines is for the program, where a valid line without a reply has this
-- fault
abbrev pub outcome_of
    : {B : Type 0} → ProgramError → Result (ℕ × Phase B) (DriveError SceneFault)
    → Result B ProgramError
outcome_of missing (Ok (number, Reading reader)) = Err (Line number BadLine)
outcome_of missing (Ok (number, Seating scene)) = Err (Line number BadLine)
outcome_of missing (Ok (number, Playing begun)) = Ok begun
outcome_of missing (Err (drives.Line number fault)) = Err (Line number fault)
outcome_of missing (Err drives.Memory) = Err missing
outcome_of missing (Err drives.Read) = Err Read
outcome_of missing (Err drives.Write) = Err Write

-- An invalid line was taken, and no line behind it; or all of the text, all of whose lines are
-- valid, but which ended too early.
abbrev pub StopsAt : {B : Type 0} → Rules (Phase B) SceneFault → Transfer → ℕ → Type 0
StopsAt rules t number =
    ((lines : List (List ℕ)) × (line : List ℕ) × (number ≡ length lines + 1)
    × TakesLine t.input lines line t.left)
    ⊎ ((t.left ≡ Some []) × IsOk (text_output rules first_phase t.input).ending)

-- a prefix of these bytes was written
abbrev pub WritesPrefix : Transfer → List ℕ → Type 0
WritesPrefix t text =
    (part : List ℕ) × (rest : List ℕ) × (part ++ rest ≡ text) × (t.after ≡ Some (t.before ++ part))

-- A run stopped at a line `settle P` of a session to which the lines before it lead. Their output
-- was written, and nothing behind it.
pub record StopsAtSettle (t : Transfer) : Type 0 where
  pub stops : StopsForMemory text_rules first_phase t
  pub stop : StopsAtValidLine text_rules first_phase t stops.lines stops.state
  pub session : peers.Session
  pub state_is : stops.state ≡ Playing session
  pub peer : ℕ
  pub line_is : IsLineOf (length session.peers) stop.line (Settle peer)

-- How a run ended, and what it read and wrote. It runs out of memory only at a valid line, and its
-- crew fails only at a settle; there, and where the reader failed, the lines before are valid and
-- their output was written; where the writer failed, a part of the next reply stands behind that.
abbrev pub Runs : Transfer → Result (Unit {0}) ProgramError → Type 0
Runs t (Ok done) =
    (t.left ≡ Some []) × (t.after ≡ Some (t.before ++ (text_of t.input).written))
    × ((text_of t.input).fault ≡ None)
Runs t (Err (Line number fault)) =
    StopsAt text_rules t number × (t.after ≡ Some (t.before ++ (text_of t.input).written))
    × ((text_of t.input).fault ≡ Some (number, fault))
Runs t (Err Memory) = StopsForMemory text_rules first_phase t
Runs t (Err (Crew error)) = StopsAtSettle t
Runs t (Err Read) = StopsForRead text_rules first_phase t
Runs t (Err Write) = StopsForWrite text_rules first_phase t
Runs t (Err (Words text)) = ⊥
Runs t (Err (Frame fault)) = ⊥
Runs t (Err (Session refusal)) = ⊥

-- a run that ends because its reader failed counts one failure of it, and any other run none
abbrev pub CountsReading : {X : Type 0} → ℕ → Result X ProgramError → ℕ → Type 0
CountsReading before (Err Read) after = after ≡ before + 1
CountsReading before result after = after ≡ before

-- the same of its writer
abbrev pub CountsWriting : {X : Type 0} → ℕ → Result X ProgramError → ℕ → Type 0
CountsWriting before (Err Write) after = after ≡ before + 1
CountsWriting before result after = after ≡ before

-- a call that reads nothing has no error of a reader, nor of a crew, which only a text uses
abbrev pub ReadsNothing : Result (Unit {0}) ProgramError → Type 0
ReadsNothing (Err Read) = ⊥
ReadsNothing (Err (Crew error)) = ⊥
ReadsNothing result = Unit {0}
