-- How a call with the text of a session ends.
use Rattle.std.proofs.Common.{◌≡◌, ◌∙◌, ℕ, List, ◌++◌, Option, Some, None, Ok, Err, ap, sym, inl, inr, subst}
use Rattle.std.specs.Io.KnownBytes.{Appends}
use Rattle.pf_text.specs.Lines.{AppendsPrefix}
use Rattle.pf_text.specs.Streams.{Transfer}
use Rattle.pf_text.proofs.Taking.{appends_known}
use Rattle.pf_rollback.specs.declared.error.Refusal.{Refusal}
use Rattle.pf_step.specs.declared.crew.CrewError.{CrewError}
use Rattle.pf_console.specs.declared.error.ProgramError.{ProgramError}
use Rattle.pf_console.specs.declared.error.ProgramError.TheVariants.{Words, Line, Frame, Session, Memory, Crew, Read, Write}
use Rattle.pf_console.specs.Crews.{IsCrewErrorOfSession}
use Rattle.pf_console.specs.Scripts.{Scripts, blocks_of, scripts_refusal}
use Rattle.pf_console.specs.SessionText.{EndsBy, PlaysSession, ReadsScripts, SessionText, WritesNothing, scripts_of, session_text_of, text_of_scripts, text_unless}

-- the text of valid scripts
text_is : (t : Transfer) (s : Scripts) (refusal : Option Refusal) → scripts_of t.input ≡ Ok s → scripts_refusal s.scene s.scripts ≡ refusal
    → session_text_of t.input ≡ text_unless (blocks_of s) refusal
text_is t s refusal is refused = ap text_of_scripts is ∙ ap (text_unless (blocks_of s)) refused

-- a call whose lines were not read
pub read_ends : (t : Transfer) (fault : ProgramError) → WritesNothing t × ReadsScripts t (Err fault) → PlaysSession t (Err fault)
read_ends t (Line number fault) h = (h.1.0, h.0, ap (λ (text : SessionText). text.fault) (ap text_of_scripts h.1.1))
read_ends t Memory h = (h.0, inl h.1)
read_ends t Read h = (h.0, h.1)
read_ends t Write h = elim h.1 [ ]
read_ends t (Words text) h = elim h.1 [ ]
read_ends t (Frame fault) h = elim h.1 [ ]
read_ends t (Session refusal) h = elim h.1 [ ]
read_ends t (Crew error) h = elim h.1 [ ]

-- a call whose session was not played to its end
pub play_ends : (t : Transfer) (s : Scripts) (crew : Option ℕ) (fault : ProgramError) → WritesNothing t × ReadsScripts t (Ok s) → EndsBy crew s fault
    → PlaysSession t (Err fault)
play_ends t s crew (Session refusal) h ends =
    (h.1.0, h.0, ap (λ (text : SessionText). text.fault) (text_is t s (Some refusal) h.1.1 ends))
play_ends t s crew Memory h ends = (h.0, inr (h.1.0, (s, h.1.1)))
play_ends t s crew (Crew error) h ends = (h.0, (h.1.0, (s, h.1.1)))
play_ends t s crew (Line number fault) h ends = elim ends [ ]
play_ends t s crew Read h ends = elim ends [ ]
play_ends t s crew Write h ends = elim ends [ ]
play_ends t s crew (Words text) h ends = elim ends [ ]
play_ends t s crew (Frame fault) h ends = elim ends [ ]

-- its error is one of its threads, if it is one of threads at all
pub threads_named : (crew : Option ℕ) (s : Scripts) (fault : ProgramError) → EndsBy crew s fault
    → (error : CrewError) → fault ≡ Crew error → IsCrewErrorOfSession crew error
threads_named crew s fault ends error is = subst (EndsBy crew s) is ends

module _ (t : Transfer) (between : Option (List ℕ)) (s : Scripts) (blocks : List ℕ) where
  abbrev Before : Transfer
  Before = record { input = t.input; left = t.left; before = t.before; after = between }

  -- all blocks were written
  pub blocks_written : WritesNothing Before × ReadsScripts Before (Ok s) → blocks ≡ blocks_of s → scripts_refusal s.scene s.scripts ≡ None
      → Appends between t.after blocks → PlaysSession t (Ok tt)
  blocks_written h are none appends =
      let text = text_is t s None h.1.1 none in
      let after = appends_known between t.after t.before blocks h.0 appends in (
        h.1.0,
        after ∙ ap (λ (b : List ℕ). Some (t.before ++ b)) (are ∙ sym (ap (λ (x : SessionText). x.written) text)),
        ap (λ (x : SessionText). x.fault) text,
      )

  -- a part of them was
  pub blocks_cut : WritesNothing Before × ReadsScripts Before (Ok s) → blocks ≡ blocks_of s → scripts_refusal s.scene s.scripts ≡ None
      → AppendsPrefix between t.after blocks → PlaysSession t (Err Write)
  blocks_cut h are none appends =
      let text = text_is t s None h.1.1 none in
      let after = appends_known between t.after t.before appends.prefix h.0 appends.appended in (
        h.1.0,
        (appends.prefix, appends.rest, appends.bytes_are ∙ are ∙ sym (ap (λ (x : SessionText). x.written) text), after),
        ap (λ (x : SessionText). x.fault) text,
      )
