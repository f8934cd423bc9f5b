-- What the program does for a request.
use Rattle.std.specs.Prelude.{◌≡◌, ℕ, ◌<◌, ◌≤◌, IfSome, List, ◌++◌, Some, Result, Ok, Err, codes, string_bytes}
use Rattle.pf_step.specs.Split.{Island}
use Rattle.pf_pool.specs.declared.pool.TheConstants.{MAX_WORKERS}
use Rattle.pf_step.specs.declared.crew.CrewError.{CrewError}
use Rattle.pf_console.specs.declared.error.ProgramError.{ProgramError}
use Rattle.pf_console.specs.declared.error.ProgramError.TheVariants.{Write}
use Rattle.pf_console.specs.declared.request.Request.{Request}
use Rattle.pf_console.specs.declared.request.Request.TheVariants.{Run, Session, Frame, Help, Version}
use Rattle.pf_console.specs.Crews.{FailsByCrew, FailsByThreads}
use Rattle.pf_console.specs.FrameText.{PrintsFrame}
use Rattle.pf_console.specs.SessionText.{PlaysSession}
use Rattle.pf_console.specs.Text.{Runs}
use Rattle.pf_text.specs.Streams.{Transfer, Written, written}

-- a text was written behind the bytes that were there before, or a part of it where the writer
-- failed
abbrev pub Writes : List ℕ → Written → Result (Unit {0}) ProgramError → Type 0
Writes text w (Ok done) = w.after ≡ Some (w.before ++ text)
Writes text w (Err Write) =
    (part : List ℕ) × (rest : List ℕ) × (part ++ rest ≡ text) × (w.after ≡ Some (w.before ++ part))
Writes text w (Err other) = ⊥

-- What was done for a request: a run of the input, a session of it, the line of a frame, a help or
-- the version. Only runs and sessions read.
abbrev pub Performs : Request → Transfer → Result (Unit {0}) ProgramError → Type 0
Performs (Run workers) t result = Runs t result
Performs (Session workers) t result = PlaysSession t result
Performs (Frame digits) t result =
    (t.left ≡ Some t.input) × PrintsFrame digits.now (written t) result
Performs (Help text) t result =
    (t.left ≡ Some t.input) × Writes (string_bytes text) (written t) result
Performs Version t result =
    (t.left ≡ Some t.input) × Writes (codes "pf_play 0.1.0\n") (written t) result

-- the crews of a session's peers have 1 to 16 workers, where there are any
abbrev pub CanStart : Request → Type 0
CanStart (Session crew) = IfSome crew (λ size. (0 < size) × (size ≤ MAX_WORKERS))
CanStart request = Unit {0}

-- an error of threads comes from those of a session, or else from the crew that was lent
abbrev pub FailsByThreadsOf : {A : Type 0} → (A → List Island → CrewError → A → Type 0) → Request
    → Result (Unit {0}) ProgramError → Type 0
FailsByThreadsOf may_fail (Session crew) result = FailsByThreads crew result
FailsByThreadsOf may_fail request result = FailsByCrew may_fail result
