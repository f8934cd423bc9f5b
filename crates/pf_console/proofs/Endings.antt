-- How a run of a text ended.
use Rattle.std.proofs.Common.{◌≡◌, ◌⊎◌, ℕ, List, Option, None, Some, Result, Ok, Err, ap, inl, inr, is_ok, subst, sym}
use Rattle.pf_text.specs.declared.driver.DriveError.{DriveError}
use Rattle.pf_text.specs.declared.driver.DriveError.TheVariants as drives
use Rattle.pf_text.specs.Driver.{Completes, CountsReads, CountsWrites, Drives, RunKeepsLent, StopsAtChange}
use Rattle.pf_text.specs.Streams.{IfExposed, Streams, Transfer}
use Rattle.pf_events.specs.Session.{Session}
use Rattle.pf_shapes.specs.declared.fault.SceneFault.{SceneFault}
use Rattle.pf_step.specs.declared.crew.CrewError.{CrewError}
use Rattle.pf_console.specs.declared.error.ProgramError.{ProgramError}
use Rattle.pf_console.specs.declared.phase.Phase.{Phase}
use Rattle.pf_console.specs.declared.phase.Phase.TheVariants.{Reading, Seating, Playing}
use Rattle.pf_console.specs.Crews.{error_of_missing_reply}
use Rattle.pf_console.specs.Phase.{first_phase}
use Rattle.pf_console.specs.Run.{text_rules}
use Rattle.pf_console.specs.Text.{CountsReading, CountsWriting, Runs, StopsAt, StopsAtSettle, fault_of_ending, outcome_of, text_of}
use Rattle.pf_console.proofs.Settling.{stops_at_settle}

-- the outcome of a run, which does not return the session
abbrev pub ended : Result Session ProgramError → Result (Unit {0}) ProgramError
ended (Ok begun) = Ok tt
ended (Err fault) = Err fault

ends_early : (t : Transfer) (end : ℕ × Phase Session) → Completes text_rules first_phase t end → StopsAt text_rules t end.0
ends_early t end h = inr (h.left_is, ap is_ok h.ending_is)

-- a transfer of streams that expose their bytes
abbrev exposed : Streams → List ℕ → List ℕ → Transfer
exposed s input before = record { input = input; left = s.left; before = before; after = s.after }

-- where a crew has failed, the run stopped at a settle
settle_stopped : (s : Streams) (error : CrewError)
    → (◌≡◌ {A = Option CrewError} (Some error) None) ⊎ IfExposed s (λ t. StopsAtChange text_rules first_phase t) → IfExposed s (λ t. StopsAtSettle t)
settle_stopped s error (inl same) = absurd cc
settle_stopped s error (inr stops) = λ input before unread was. stops_at_settle _ (stops input before unread was)

-- the run lent to its lines the error of a crew that had not failed, and `failed` is that error now
runs_on : (s : Streams) (input before : List ℕ) → s.unread ≡ Some input → s.before ≡ Some before
    → (failed : Option CrewError) (read : Result (ℕ × Phase Session) (DriveError SceneFault))
    → RunKeepsLent text_rules first_phase s read None failed → Drives text_rules first_phase (exposed s input before) read
    → Runs (exposed s input before) (ended (outcome_of (error_of_missing_reply failed) read))
unfolding text_of
runs_on s input before unread was failed (Ok (number, Reading reader)) kept h =
    (ends_early (exposed s input before) (number, Reading reader) h, h.after_is, ap fault_of_ending h.ending_is)
runs_on s input before unread was failed (Ok (number, Seating scene)) kept h =
    (ends_early (exposed s input before) (number, Seating scene) h, h.after_is, ap fault_of_ending h.ending_is)
runs_on s input before unread was failed (Ok (number, Playing session)) kept h = (h.left_is, h.after_is, ap fault_of_ending h.ending_is)
runs_on s input before unread was failed (Err (drives.Line number fault)) kept h =
    (inl (h.lines, h.line, h.number_is, h.takes), h.after_is, ap fault_of_ending h.ending_is)
runs_on s input before unread was None (Err drives.Memory) kept h = h
runs_on s input before unread was (Some error) (Err drives.Memory) kept h = settle_stopped s error kept input before unread was
runs_on s input before unread was failed (Err drives.Read) kept h = h
runs_on s input before unread was failed (Err drives.Write) kept h = h

-- where `missing` is why a valid line had no reply
pub runs : (s : Streams) (failed : Option CrewError) (missing : ProgramError) (read : Result (ℕ × Phase Session) (DriveError SceneFault))
    → missing ≡ error_of_missing_reply failed → IfExposed s (λ t. Drives text_rules first_phase t read)
    → RunKeepsLent text_rules first_phase s read None failed
    → IfExposed s (λ t. Runs t (ended (outcome_of missing read)))
runs s failed missing read is drives kept = λ input before unread was.
    subst (λ fault. Runs (exposed s input before) (ended (outcome_of fault read))) (sym is)
    (runs_on s input before unread was failed read kept (drives input before unread was))

-- the reader's failures that the run counts are those that the lines counted
pub reads_counted : (before after : ℕ) (failed : Option CrewError) (missing : ProgramError) (read : Result (ℕ × Phase Session) (DriveError SceneFault))
    → missing ≡ error_of_missing_reply failed → CountsReads before read after → CountsReading before (ended (outcome_of missing read)) after
reads_counted before after failed missing read is counted =
    subst (λ fault. CountsReading before (ended (outcome_of fault read)) after) (sym is) (by failed read counted)
  where
    by : (failed : Option CrewError) (read : Result (ℕ × Phase Session) (DriveError SceneFault)) → CountsReads before read after
        → CountsReading before (ended (outcome_of (error_of_missing_reply failed) read)) after
    by failed (Ok (number, Reading reader)) h = h
    by failed (Ok (number, Seating scene)) h = h
    by failed (Ok (number, Playing session)) h = h
    by failed (Err (drives.Line number fault)) h = h
    by None (Err drives.Memory) h = h
    by (Some error) (Err drives.Memory) h = h
    by failed (Err drives.Read) h = h
    by failed (Err drives.Write) h = h

-- the same of the writer's
pub writes_counted : (before after : ℕ) (failed : Option CrewError) (missing : ProgramError) (read : Result (ℕ × Phase Session) (DriveError SceneFault))
    → missing ≡ error_of_missing_reply failed → CountsWrites before read after → CountsWriting before (ended (outcome_of missing read)) after
writes_counted before after failed missing read is counted =
    subst (λ fault. CountsWriting before (ended (outcome_of fault read)) after) (sym is) (by failed read counted)
  where
    by : (failed : Option CrewError) (read : Result (ℕ × Phase Session) (DriveError SceneFault)) → CountsWrites before read after
        → CountsWriting before (ended (outcome_of (error_of_missing_reply failed) read)) after
    by failed (Ok (number, Reading reader)) h = h
    by failed (Ok (number, Seating scene)) h = h
    by failed (Ok (number, Playing session)) h = h
    by failed (Err (drives.Line number fault)) h = h
    by None (Err drives.Memory) h = h
    by (Some error) (Err drives.Memory) h = h
    by failed (Err drives.Read) h = h
    by failed (Err drives.Write) h = h
