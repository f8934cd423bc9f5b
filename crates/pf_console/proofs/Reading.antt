-- How the lines of a session's text were read.
use Rattle.std.proofs.Common.{◌≡◌, ◌≢◌, ℕ, Result, Ok, Err, ap, inl, inr, is_ok}
use Rattle.pf_text.specs.declared.driver.DriveError.{DriveError}
use Rattle.pf_text.specs.declared.driver.DriveError.TheVariants as drives
use Rattle.pf_text.specs.Driver.{Completes, Drives, StopsAtLine, text_output}
use Rattle.pf_text.specs.Driver as counts
use Rattle.pf_text.specs.Streams.{Transfer}
use Rattle.pf_shapes.specs.declared.fault.SceneFault.{SceneFault}
use Rattle.pf_step.specs.declared.crew.CrewError.{CrewError}
use Rattle.pf_console.specs.declared.error.ProgramError.TheVariants.{Crew, Memory}
use Rattle.pf_console.specs.declared.phase.Phase.{Phase}
use Rattle.pf_console.specs.declared.phase.Phase.TheVariants.{Reading, Seating, Playing}
use Rattle.pf_console.specs.Phase.{first_phase}
use Rattle.pf_console.specs.Scripts.{Scripts}
use Rattle.pf_console.specs.SessionText.{ReadsScripts, WritesNothing, scripts_at, scripts_of, session_rules}
use Rattle.pf_console.specs.Text.{CountsReading, CountsWriting, StopsAt, outcome_of}
use Rattle.pf_text.specs.Lines.{lines_of}
use Rattle.pf_console.proofs.Quiet.{lines_quiet, memory_quiet, never_writes, nothing_more, read_quiet}

complete_quiet : (t : Transfer) (ended : ℕ × Phase Scripts) → Completes session_rules first_phase t ended → WritesNothing t
complete_quiet t ended h =
    nothing_more t (text_output session_rules first_phase t.input).text (lines_quiet 1 first_phase (lines_of t.input)) h.after_is

line_quiet : (t : Transfer) (number : ℕ) (fault : SceneFault) → StopsAtLine session_rules first_phase t number fault → WritesNothing t
line_quiet t number fault h =
    nothing_more t (text_output session_rules first_phase t.input).text (lines_quiet 1 first_phase (lines_of t.input)) h.after_is

scripts_are : (t : Transfer) (ending : Result (ℕ × Phase Scripts) (ℕ × SceneFault)) → (text_output session_rules first_phase t.input).ending ≡ ending
    → scripts_of t.input ≡ scripts_at ending
unfolding scripts_of
scripts_are t ending is = ap scripts_at is

ends_early : (t : Transfer) (ended : ℕ × Phase Scripts) → Completes session_rules first_phase t ended → StopsAt session_rules t ended.0
ends_early t ended h = inr (h.left_is, ap is_ok h.ending_is)

pub reads : (t : Transfer) (read : Result (ℕ × Phase Scripts) (DriveError SceneFault)) → Drives session_rules first_phase t read
    → WritesNothing t × ReadsScripts t (outcome_of Memory read)
reads t (Ok (number, Reading reader)) h =
    (complete_quiet t (number, Reading reader) h, (ends_early t (number, Reading reader) h, scripts_are t (Ok (number, Reading reader)) h.ending_is))
reads t (Ok (number, Seating scene)) h =
    (complete_quiet t (number, Seating scene) h, (ends_early t (number, Seating scene) h, scripts_are t (Ok (number, Seating scene)) h.ending_is))
reads t (Ok (number, Playing s)) h =
    (complete_quiet t (number, Playing s) h, (h.left_is, scripts_are t (Ok (number, Playing s)) h.ending_is))
reads t (Err (drives.Line number fault)) h =
    (line_quiet t number fault h, (inl (h.lines, h.line, h.number_is, h.takes), scripts_are t (Err (number, fault)) h.ending_is))
reads t (Err drives.Memory) h = (memory_quiet t h, h)
reads t (Err drives.Read) h = (read_quiet t h, h)
reads t (Err drives.Write) h = absurd (never_writes t h)

pub reads_counted : (before after : ℕ) (read : Result (ℕ × Phase Scripts) (DriveError SceneFault)) → counts.CountsReads before read after
    → CountsReading before (outcome_of Memory read) after
reads_counted before after (Ok (number, Reading reader)) h = h
reads_counted before after (Ok (number, Seating scene)) h = h
reads_counted before after (Ok (number, Playing s)) h = h
reads_counted before after (Err (drives.Line number fault)) h = h
reads_counted before after (Err drives.Memory) h = h
reads_counted before after (Err drives.Read) h = h
reads_counted before after (Err drives.Write) h = h

pub writes_counted : (before after : ℕ) (read : Result (ℕ × Phase Scripts) (DriveError SceneFault)) → counts.CountsWrites before read after
    → CountsWriting before (outcome_of Memory read) after
writes_counted before after (Ok (number, Reading reader)) h = h
writes_counted before after (Ok (number, Seating scene)) h = h
writes_counted before after (Ok (number, Playing s)) h = h
writes_counted before after (Err (drives.Line number fault)) h = h
writes_counted before after (Err drives.Memory) h = h
writes_counted before after (Err drives.Read) h = h
writes_counted before after (Err drives.Write) h = h

-- no thread was started
pub names_none : (read : Result (ℕ × Phase Scripts) (DriveError SceneFault)) (error : CrewError) → outcome_of Memory read ≢ Err (Crew error)
names_none (Ok (number, Reading reader)) error = λ e. absurd cc
names_none (Ok (number, Seating scene)) error = λ e. absurd cc
names_none (Ok (number, Playing s)) error = λ e. absurd cc
names_none (Err (drives.Line number fault)) error = λ e. absurd cc
names_none (Err drives.Memory) error = λ e. absurd cc
names_none (Err drives.Read) error = λ e. absurd cc
names_none (Err drives.Write) error = λ e. absurd cc
