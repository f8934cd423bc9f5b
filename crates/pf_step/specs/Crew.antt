-- What a crew promises before islands without contacts may be left out of its calls.
use Rattle.std.specs.Prelude.{List}
use Rattle.pf_islands.specs.Split.{Island}
use Rattle.pf_step.specs.declared.crew.CrewError.{CrewError}

-- what a call does to a crew does not depend on the islands that it is called with, and a call that
-- succeeds may be left out
pub record IgnoresIslands {A : Type 0} (is_called : A → List Island → A → Type 0)
    (may_fail : A → List Island → CrewError → A → Type 0) (crew : A) : Type 0 where
  pub skipped : (islands : List Island) → is_called crew islands crew
  pub called :
      (some islands : List Island) (after : A) → is_called crew some after
      → is_called crew islands after
  pub failed :
      (some islands : List Island) (error : CrewError) (after : A) → may_fail crew some error after
      → may_fail crew islands error after
