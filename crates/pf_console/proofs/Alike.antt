-- Two sessions of one text in which nothing failed wrote the same and ended alike.
use Rattle.std.proofs.Common.{◌≡◌, ◌∙◌, List, ℕ, [], ◌++◌, Option, Some, None, Result, Ok, Err, refl, sym, ap}
use Rattle.std.proofs.lemmas.List.{append-nil}
use Rattle.pf_text.specs.Streams.{Transfer}
use Rattle.pf_rollback.specs.declared.error.Refusal.{Refusal}
use Rattle.pf_shapes.specs.declared.fault.SceneFault.{SceneFault}
use Rattle.pf_console.specs.declared.error.ProgramError.{ProgramError}
use Rattle.pf_console.specs.declared.error.ProgramError.TheVariants.{Words, Line, Frame, Session, Memory, Crew, Read, Write}
use Rattle.pf_console.specs.Laws.{NothingFailed}
use Rattle.pf_console.specs.Scripts.{Scripts, blocks_of, scripts_refusal}
use Rattle.pf_console.specs.SessionText.{PlaysSession, WritesNothing, scripts_of, session_text_of, text_of_scripts, text_unless}
use Rattle.pf_console.specs.Text.{WritesPrefix}

-- a text with a fault writes nothing
silent : (t : Transfer) (fault : ProgramError) → (session_text_of t.input).fault ≡ Some fault → (session_text_of t.input).written ≡ []
silent t fault is = by (scripts_of t.input) is
  where
    unless : (blocks : List ℕ) (refusal : Option Refusal) → (text_unless blocks refusal).fault ≡ Some fault → (text_unless blocks refusal).written ≡ []
    unless blocks None is = absurd cc
    unless blocks (Some refusal) is = refl

    by : (read : Result Scripts (ℕ × SceneFault)) → (text_of_scripts read).fault ≡ Some fault → (text_of_scripts read).written ≡ []
    by (Ok s) is = unless (blocks_of s) (scripts_refusal s.scene s.scripts) is
    by (Err line) is = refl

nothing_prefix : (t : Transfer) → WritesNothing t → WritesPrefix t (session_text_of t.input).written
nothing_prefix t nothing =
    ([], (session_text_of t.input).written, refl, nothing ∙ ap (λ (bytes : List ℕ). Some bytes) (sym (append-nil t.before)))

pub sessions_prefix : (t : Transfer) (result : Result (Unit {0}) ProgramError) → PlaysSession t result
    → WritesPrefix t (session_text_of t.input).written
sessions_prefix t (Ok done) h = ((session_text_of t.input).written, [], append-nil _, h.1)
sessions_prefix t (Err (Line number fault)) h = nothing_prefix t h.1
sessions_prefix t (Err (Session refusal)) h = nothing_prefix t h.1
sessions_prefix t (Err Memory) h = nothing_prefix t h.0
sessions_prefix t (Err (Crew error)) h = nothing_prefix t h.0
sessions_prefix t (Err Read) h = nothing_prefix t h.0
sessions_prefix t (Err Write) h = h.1
sessions_prefix t (Err (Words text)) h = elim h [ ]
sessions_prefix t (Err (Frame fault)) h = elim h [ ]

-- all that belongs to a text with a fault is nothing
all_of_nothing : (t : Transfer) (fault : ProgramError) → WritesNothing t → (session_text_of t.input).fault ≡ Some fault
    → t.after ≡ Some (t.before ++ (session_text_of t.input).written)
all_of_nothing t fault nothing is =
    nothing ∙ ap (λ (bytes : List ℕ). Some bytes) (sym (append-nil t.before))
    ∙ ap (λ (more : List ℕ). Some (t.before ++ more)) (sym (silent t fault is))

pub sessions_all : (t : Transfer) (result : Result (Unit {0}) ProgramError) → PlaysSession t result → NothingFailed result
    → t.after ≡ Some (t.before ++ (session_text_of t.input).written)
sessions_all t (Ok done) h fine = h.1
sessions_all t (Err (Line number fault)) h fine = all_of_nothing t (Line number fault) h.1 h.2
sessions_all t (Err (Session refusal)) h fine = all_of_nothing t (Session refusal) h.1 h.2
sessions_all t (Err Memory) h fine = elim fine [ ]
sessions_all t (Err (Crew error)) h fine = elim fine [ ]
sessions_all t (Err Read) h fine = elim fine [ ]
sessions_all t (Err Write) h fine = elim fine [ ]
sessions_all t (Err (Words text)) h fine = elim fine [ ]
sessions_all t (Err (Frame fault)) h fine = elim fine [ ]

-- how a session ends in which nothing failed
abbrev ending_of : Option ProgramError → Result (Unit {0}) ProgramError
ending_of None = Ok tt
ending_of (Some fault) = Err fault

sessions_end : (t : Transfer) (result : Result (Unit {0}) ProgramError) → PlaysSession t result → NothingFailed result
    → result ≡ ending_of (session_text_of t.input).fault
sessions_end t (Ok done) h fine = sym (ap ending_of h.2)
sessions_end t (Err (Line number fault)) h fine = sym (ap ending_of h.2)
sessions_end t (Err (Session refusal)) h fine = sym (ap ending_of h.2)
sessions_end t (Err Memory) h fine = elim fine [ ]
sessions_end t (Err (Crew error)) h fine = elim fine [ ]
sessions_end t (Err Read) h fine = elim fine [ ]
sessions_end t (Err Write) h fine = elim fine [ ]
sessions_end t (Err (Words text)) h fine = elim fine [ ]
sessions_end t (Err (Frame fault)) h fine = elim fine [ ]

pub sessions_alike : (t u : Transfer) (first second : Result (Unit {0}) ProgramError) → PlaysSession t first → PlaysSession u second
    → NothingFailed first → NothingFailed second → t.input ≡ u.input → t.before ≡ u.before → (t.after ≡ u.after) × (first ≡ second)
sessions_alike t u first second h k fine good input before = (
  sessions_all t first h fine ∙ ap (λ (b : List ℕ). Some (b ++ (session_text_of t.input).written)) before
      ∙ ap (λ (i : List ℕ). Some (u.before ++ (session_text_of i).written)) input ∙ sym (sessions_all u second k good),
  sessions_end t first h fine ∙ ap (λ (i : List ℕ). ending_of (session_text_of i).fault) input ∙ sym (sessions_end u second k good),
)
