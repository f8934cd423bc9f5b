-- What the program prints about an error, and the status that it ends with.
use Rattle.std.specs.Prelude.{◌≡◌, ℕ, ◌+◌, List, [], ◌++◌, ◌⊎◌, Result, Ok, Err, codes, decimal, string_bytes}
use Rattle.std.specs.Io.KnownBytes.{Appends}
use Rattle.pf_text.specs.Lines.{AppendsPrefix}
use Rattle.pf_text.specs.Streams.{SinkCall}
use Rattle.pf_shapes.specs.declared.fault.SceneFault.{SceneFault}
use Rattle.pf_shapes.specs.declared.fault.SceneFault.TheVariants.{BadLine, BadNumber, TooMany, BadMass, BadSize}
use Rattle.pf_step.specs.declared.crew.CrewError.{CrewError}
use Rattle.pf_rollback.specs.declared.error.Refusal.{Refusal}
use Rattle.pf_console.specs.Names.{crew_error_name, frame_fault_name, refusal_name}
use Rattle.pf_console.specs.declared.error.DigitsFault.{DigitsFault}
use Rattle.pf_console.specs.declared.error.DigitsFault.TheVariants as digits
use Rattle.pf_console.specs.declared.error.ProgramError.{ProgramError}
use Rattle.pf_console.specs.declared.error.ProgramError.TheVariants.{Words, Line, Frame, Session, Memory, Crew, Read, Write}

abbrev pub fault_name : SceneFault → List ℕ
fault_name BadLine = codes "BadLine"
fault_name BadNumber = codes "BadNumber"
fault_name TooMany = codes "TooMany"
fault_name BadMass = codes "BadMass"
fault_name BadSize = codes "BadSize"

abbrev pub digits_fault_name : DigitsFault → List ℕ
digits_fault_name digits.BadNumber = codes "BadNumber"
digits_fault_name (digits.Refused fault) = frame_fault_name fault

-- the text about an invalid frame
unfoldable pub invalid_frame_text : DigitsFault → List ℕ
invalid_frame_text fault = codes "pf_play: frame: " ++ digits_fault_name fault ++ codes "\n"

-- the text about an invalid line
unfoldable pub invalid_line_text : ℕ → SceneFault → List ℕ
invalid_line_text number fault =
    codes "pf_play: line " ++ decimal number ++ codes ": " ++ fault_name fault ++ codes "\n"

-- the text about a crew that failed
unfoldable pub crew_error_text : CrewError → List ℕ
crew_error_text error = codes "pf_play: crew: " ++ crew_error_name error ++ codes "\n"

-- the text about a script that is refused
unfoldable pub refused_script_text : Refusal → List ℕ
refused_script_text refusal = codes "pf_play: session: " ++ refusal_name refusal ++ codes "\n"

abbrev pub fault_text : ProgramError → List ℕ
fault_text (Words text) = string_bytes text
fault_text (Line number fault) = invalid_line_text number fault
fault_text (Frame fault) = invalid_frame_text fault
fault_text (Session refusal) = refused_script_text refusal
fault_text Memory = codes "pf_play: out of memory\n"
fault_text (Crew error) = crew_error_text error
fault_text Read = codes "pf_play: read failed\n"
fault_text Write = codes "pf_play: write failed\n"

abbrev pub status_of : ProgramError → ℕ
status_of (Words text) = 2
status_of (Line number fault) = 1
status_of (Frame fault) = 1
status_of (Session refusal) = 1
status_of Memory = 3
status_of (Crew error) = 3
status_of Read = 3
status_of Write = 3

-- the same of how the program ended: no text and 0 where there is no error
abbrev pub outcome_text : Result (Unit {0}) ProgramError → List ℕ
outcome_text (Ok done) = []
outcome_text (Err fault) = fault_text fault

abbrev pub outcome_status : Result (Unit {0}) ProgramError → ℕ
outcome_status (Ok done) = 0
outcome_status (Err fault) = status_of fault

-- all of a text was written; or else the writer failed, and a part of it was
abbrev pub Reports : SinkCall → List ℕ → Type 0
Reports s text =
    ((s.failures_after ≡ s.failures_before) × Appends s.before s.after text)
    ⊎ ((s.failures_after ≡ s.failures_before + 1) × AppendsPrefix s.before s.after text)
