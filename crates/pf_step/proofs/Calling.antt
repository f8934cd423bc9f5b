-- A crew that ignores which islands it is called with.
use Rattle.std.proofs.Common.{◌≡◌, ◌∙◌, List, [], ◌∷◌, refl, ap, subst}
use Rattle.pf_islands.specs.declared.splitting.LoneBodies.{LoneBodies}
use Rattle.pf_islands.specs.declared.splitting.LoneBodies.TheVariants.{AreIslands, AreListed}
use Rattle.pf_islands.specs.Lone.{made_islands}
use Rattle.pf_islands.specs.Split.{Island}
use Rattle.pf_step.specs.declared.crew.CrewError.{CrewError}
use Rattle.pf_step.specs.Crew.{IgnoresIslands}

-- where each lone body is an island, all islands are made
all_made : (islands : List Island) → made_islands AreIslands islands ≡ islands
all_made [] = refl
all_made (i ∷ islands) = ap (λ is. i ∷ is) (all_made islands)

module _ {A : Type 0} (is_called : A → List Island → A → Type 0) (may_fail : A → List Island → CrewError → A → Type 0)
    (crew : A) (all : List Island) where
  -- a call with the islands that are made is one with all
  pub called_with_all : (lone : LoneBodies) (islands : List Island) (after : A)
      → (lone ≡ AreListed → IgnoresIslands is_called may_fail crew) → islands ≡ made_islands lone all
      → is_called crew islands after → is_called crew all after
  called_with_all AreIslands islands after ignores are h =
      subst (λ is. is_called crew is after) (are ∙ all_made all) h
  called_with_all AreListed islands after ignores are h = (ignores refl).called islands all after h

  -- and so is one that fails
  pub failed_with_all : (lone : LoneBodies) (islands : List Island) (error : CrewError) (after : A)
      → (lone ≡ AreListed → IgnoresIslands is_called may_fail crew) → islands ≡ made_islands lone all
      → may_fail crew islands error after → may_fail crew all error after
  failed_with_all AreIslands islands error after ignores are h =
      subst (λ is. may_fail crew is error after) (are ∙ all_made all) h
  failed_with_all AreListed islands error after ignores are h = (ignores refl).failed islands all error after h
