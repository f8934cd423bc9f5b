-- What a run has written is a prefix of the text that belongs to its input.
use Rattle.std.proofs.Common.{◌≡◌, ◌⊎◌, ℕ, ◌+◌, List, [], ◌++◌, length, Option, Some, None, Result, Ok, Err, sym, ap, ◌∙◌, append_assoc, inl, inr}
use Rattle.std.proofs.lemmas.List.{append-nil}
use Rattle.pf_text.specs.Driver.{LeadTo, Output, SpendsNumbers, StopsAtValidLine, StopsForMemory, StopsForRead, StopsForWrite, lines_output, text_output}
use Rattle.pf_text.specs.Lines.{AreLines, lines_of}
use Rattle.pf_text.specs.Laws.{output_then}
use Rattle.pf_text.specs.Streams.{Transfer}
use Rattle.pf_text.proofs.LinesOf.{lines_of-AreLines}
use Rattle.pf_text.proofs.Outputs.{answers-append}
use Rattle.pf_shapes.specs.declared.fault.SceneFault.{SceneFault}
use Rattle.pf_console.specs.declared.error.ProgramError.{ProgramError}
use Rattle.pf_console.specs.declared.error.ProgramError.TheVariants.{Words, Line, Frame, Memory, Crew, Read, Write}
use Rattle.pf_console.specs.declared.error.ProgramError.TheVariants as errors
use Rattle.pf_events.specs.Session.{Session}
use Rattle.pf_console.specs.declared.phase.Phase.{Phase}
use Rattle.pf_console.specs.Laws.{NothingFailed}
use Rattle.pf_console.specs.Phase.{first_phase}
use Rattle.pf_console.specs.Run.{text_rules}
use Rattle.pf_console.specs.Text.{Runs, WritesPrefix, text_of}

-- the output of lines that lead to a state stands before that of all that follows them
output_stands : (t : Transfer) (lines : List (List ℕ)) (text : List ℕ) (state : Phase Session) (bytes : List ℕ) → AreLines t.input lines bytes
    → LeadTo text_rules first_phase lines text state
    → (rest : List ℕ) × (text ++ rest ≡ (text_output text_rules first_phase t.input).text)
output_stands t lines text state bytes are lead =
    let more = lines_of bytes in
    let follow : ℕ → Phase Session → Output (Phase Session) SceneFault = λ number next. lines_output text_rules number next more in
    let all : text_output text_rules first_phase t.input ≡ output_then (record { text = text; ending = Ok (length lines + 1, state) }) follow =
    ap (lines_output text_rules 1 first_phase) (lines_of-AreLines t.input lines bytes are)
    ∙ answers-append text_rules 1 first_phase lines more
    ∙ ap (λ (o : Output (Phase Session) SceneFault). output_then o follow) lead in
    ((follow (length lines + 1) state).text, sym (ap (λ (o : Output (Phase Session) SceneFault). o.text) all))

-- where a run stopped since it was out of memory
stopped_prefix : (t : Transfer) → StopsForMemory text_rules first_phase t → WritesPrefix t (text_of t.input).written
unfolding text_of
stopped_prefix t stops = by stops.cause
  where
    by : StopsAtValidLine text_rules first_phase t stops.lines stops.state ⊎ SpendsNumbers text_rules first_phase t stops.lines
        → WritesPrefix t (text_output text_rules first_phase t.input).text
    by (inl at) =
        let rest = output_stands t stops.lines stops.text stops.state at.takes.bytes at.takes.lines_are stops.valid in
        (stops.text, rest.0, rest.1, stops.after_is)
    by (inr spent) =
        let rest = output_stands t stops.lines stops.text stops.state spent.rest spent.lines_are stops.valid in
        (stops.text, rest.0, rest.1, stops.after_is)

read_prefix : (t : Transfer) → StopsForRead text_rules first_phase t → WritesPrefix t (text_of t.input).written
unfolding text_of
read_prefix t stops =
    let rest = output_stands t stops.lines stops.text stops.state (stops.part ++ stops.rest) stops.lines_are stops.valid in
    (stops.text, rest.0, rest.1, stops.after_is)

write_prefix : (t : Transfer) → StopsForWrite text_rules first_phase t → WritesPrefix t (text_of t.input).written
unfolding text_of
write_prefix t stops = (
  stops.text ++ stops.part,
  stops.rest,
  stops.output_is,
  stops.after_is ∙ ap (λ (bytes : List ℕ). Some bytes) (append_assoc t.before stops.text stops.part),
)

pub runs_write_prefix : (t : Transfer) (result : Result (Unit {0}) ProgramError) → Runs t result → WritesPrefix t (text_of t.input).written
runs_write_prefix t (Ok done) h = ((text_of t.input).written, [], append-nil _, h.1)
runs_write_prefix t (Err (Line number fault)) h = ((text_of t.input).written, [], append-nil _, h.1)
runs_write_prefix t (Err Memory) h = stopped_prefix t h
runs_write_prefix t (Err (Crew error)) h = stopped_prefix t h.stops
runs_write_prefix t (Err Read) h = read_prefix t h
runs_write_prefix t (Err Write) h = write_prefix t h
runs_write_prefix t (Err (Words text)) h = elim h [ ]
runs_write_prefix t (Err (Frame fault)) h = elim h [ ]
runs_write_prefix t (Err (errors.Session refusal)) h = elim h [ ]

pub runs_write_all : (t : Transfer) (result : Result (Unit {0}) ProgramError) → Runs t result → NothingFailed result
    → t.after ≡ Some (t.before ++ (text_of t.input).written)
runs_write_all t (Ok done) h fine = h.1
runs_write_all t (Err (Line number fault)) h fine = h.1
runs_write_all t (Err Memory) h fine = elim fine [ ]
runs_write_all t (Err (Crew error)) h fine = elim fine [ ]
runs_write_all t (Err Read) h fine = elim fine [ ]
runs_write_all t (Err Write) h fine = elim fine [ ]
runs_write_all t (Err (Words text)) h fine = elim fine [ ]
runs_write_all t (Err (Frame fault)) h fine = elim fine [ ]
runs_write_all t (Err (errors.Session refusal)) h fine = elim h [ ]

-- how a run ends in which nothing failed
abbrev ending_of : Option (ℕ × SceneFault) → Result (Unit {0}) ProgramError
ending_of None = Ok tt
ending_of (Some fault) = Err (Line fault.0 fault.1)

runs_end : (t : Transfer) (result : Result (Unit {0}) ProgramError) → Runs t result → NothingFailed result → result ≡ ending_of (text_of t.input).fault
runs_end t (Ok done) h fine = sym (ap ending_of h.2)
runs_end t (Err (Line number fault)) h fine = sym (ap ending_of h.2)
runs_end t (Err Memory) h fine = elim fine [ ]
runs_end t (Err (Crew error)) h fine = elim fine [ ]
runs_end t (Err Read) h fine = elim fine [ ]
runs_end t (Err Write) h fine = elim fine [ ]
runs_end t (Err (Words text)) h fine = elim fine [ ]
runs_end t (Err (Frame fault)) h fine = elim fine [ ]
runs_end t (Err (errors.Session refusal)) h fine = elim h [ ]

pub runs_alike : (t u : Transfer) (first second : Result (Unit {0}) ProgramError) → Runs t first → Runs u second → NothingFailed first → NothingFailed second
    → t.input ≡ u.input → t.before ≡ u.before → (t.after ≡ u.after) × (first ≡ second)
runs_alike t u first second h k fine good input before = (
  runs_write_all t first h fine ∙ ap (λ (b : List ℕ). Some (b ++ (text_of t.input).written)) before
      ∙ ap (λ (i : List ℕ). Some (u.before ++ (text_of i).written)) input ∙ sym (runs_write_all u second k good),
  runs_end t first h fine ∙ ap (λ (i : List ℕ). ending_of (text_of i).fault) input ∙ sym (runs_end u second k good),
)
