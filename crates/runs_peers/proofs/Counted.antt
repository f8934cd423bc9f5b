-- What a settle does to a crew that counts its calls.
use Rattle.std.proofs.Common.{◌≡◌, ◌∙◌, ℕ, zero, suc, Err, List, ap, subst, sym}
use Rattle.std.specs.Prelude.{Ok, OnOk, Result}
use Rattle.pf_cache.specs.Meter.{saturating_sum}
use Rattle.pf_islands.specs.Split.{Island}
use Rattle.pf_step.specs.declared.crew.CrewError.{CrewError}
use Rattle.pf_step.specs.declared.crew.StepError.{StepError}
use Rattle.pf_step.specs.declared.crew.StepError.TheVariants.{Crew, OutOfMemory}
use Rattle.pf_rollback.specs.Core.{HasSettled, PeerCore, count_after, missing_count}
use Rattle.pf_rollback.specs.Settling.{AreCalls, CallsCrewByTick, FailsAfter}

module _ {A : Type 0} (call : A → List Island → A → Type 0) (core : PeerCore) where
  -- so many calls are counted
  pub calls_counted : (calls : A → ℕ)
      → ((a b : A) (is : List Island) → call a is b → calls b ≡ saturating_sum (calls a) 1)
      → (n : ℕ) (first last : A) → AreCalls call core n first last → calls last ≡ count_after (calls first) n
  unfolding AreCalls count_after
  calls_counted calls counts zero first last done = ap calls (sym done)
  calls_counted calls counts (suc n) first last done =
      counts done.0 last _ done.2 ∙ ap (λ count. saturating_sum count 1) (calls_counted calls counts n first done.0 done.1)

  -- a settle that succeeds has called the crew for each missing tick
  pub all_counted : (may_fail : A → List Island → CrewError → A → Type 0) (new : PeerCore) (calls : A → ℕ)
      → ((a b : A) (is : List Island) → call a is b → calls b ≡ saturating_sum (calls a) 1)
      → (first last : A) (result : Result ℕ StepError) → CallsCrewByTick call may_fail core new first last result
      → OnOk result (calls last ≡ count_after (calls first) (missing_count core))
  all_counted may_fail new calls counts first last (Ok tick) done = calls_counted calls counts _ first last done
  all_counted may_fail new calls counts first last (Err error) done = tt

  -- what no call changes stays
  pub same_after_calls : {B : Type 0} (part : A → B)
      → ((a b : A) (is : List Island) → call a is b → part b ≡ part a)
      → (n : ℕ) (first last : A) → AreCalls call core n first last → part last ≡ part first
  unfolding AreCalls
  same_after_calls part same zero first last done = ap part (sym done)
  same_after_calls part same (suc n) first last done =
      same done.0 last _ done.2 ∙ same_after_calls part same n first done.0 done.1

module _ {A : Type 0} {call : A → List Island → A → Type 0} (old new : PeerCore) (first last : A)
    (may_fail : A → List Island → CrewError → A → Type 0) (result : Result ℕ StepError)
    (calls_crew : CallsCrewByTick call may_fail old new first last result) where
  -- a settle that returns an error of the crew failed in a call, after calls that returned
  pub failed_call : {B : Type 0} (part : A → B)
      → ((a b : A) (is : List Island) → call a is b → part b ≡ part a)
      → (error : CrewError) → result ≡ Err (Crew error)
      → (before : A) × (part before ≡ part first) × ((is : List Island) × may_fail before is error last)
  failed_call part same error is =
      let at : FailsAfter call may_fail old new first (Crew error) last =
      subst (CallsCrewByTick call may_fail old new first last) is calls_crew in
      (at.3.0, same_after_calls call old part same at.0 first at.3.0 at.3.1, (_, at.3.2))

  -- one that is out of memory has called the crew for each tick that it settled
  pub calls_before : (calls : A → ℕ)
      → ((a b : A) (is : List Island) → call a is b → calls b ≡ saturating_sum (calls a) 1)
      → result ≡ Err OutOfMemory
      → (more : ℕ) × HasSettled more old new × (calls last ≡ count_after (calls first) more)
  calls_before calls counts is =
      let at : FailsAfter call may_fail old new first OutOfMemory last =
      subst (CallsCrewByTick call may_fail old new first last) is calls_crew in
      (at.0, at.2, ap calls at.3.2 ∙ calls_counted call old calls counts at.0 first at.3.0 at.3.1)
