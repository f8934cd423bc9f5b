-- The parts of the workers of a pool in a run, before and after they are done.
use Rattle.std.specs.Prelude.{ℕ, ◌<◌, ◌≤◌, List, length, Option, None, IfSome, IsNone, IsSome, slice_index_or}
use Rattle.pf_pool.specs.declared.reply.Dealt.{Dealt}
use Rattle.pf_pool.specs.Reply.{IsDoneOf}

-- what the workers from number `least` on have answered, if they have, is what they make of their
-- parts
abbrev pub AreAnswers : {P : Type 0} → (P → P → Type 0) → Dealt P → ℕ → List (Option P) → Type 0
AreAnswers IsDone d least slots =
    (w : ℕ) → least ≤ w → w < length slots
    → IfSome (slice_index_or slots w None) (IsDoneOf IsDone d w)

-- the workers from number `least` on have their parts
abbrev pub AreAway : {P : Type 0} → ℕ → List (Option P) → Type 0
AreAway least slots =
    (w : ℕ) → least ≤ w → w < length slots → IsNone (slice_index_or slots w None)

-- all workers from number `least` on have answered
abbrev pub HaveAnswered : {P : Type 0} → ℕ → List (Option P) → Type 0
HaveAnswered least slots =
    (w : ℕ) → least ≤ w → w < length slots → IsSome (slice_index_or slots w None)
