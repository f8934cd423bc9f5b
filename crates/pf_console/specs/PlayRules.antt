-- What `peers N` of a text begins.
use Rattle.std.specs.Prelude.{ℕ, Bool, List, Result}
use Rattle.pf_shapes.specs.declared.fault.SceneFault.{SceneFault}
use Rattle.pf_shapes.specs.Scene.{Scene}

-- the state after `peers N`; for the fields of a line its reply and the next state, or its error;
-- and whether such a line may change what it is lent
pub record PlayRules (B : Type 0) : Type 0 where
  pub begin : Scene → ℕ → B
  pub after : B → List (List ℕ) → Result (List ℕ × B) SceneFault
  pub changes_lent : B → List (List ℕ) → Bool
