-- Why a peer's play ends.
use Rattle.std.proofs.Common.{◌≡◌, ◌⊎◌, ℕ, Bool, true, false, List, Some, Option, inl, inr, refl, subst, sym}
use Rattle.std.proofs.lemmas.Bool.{true≢false}
use Rattle.pf_step.specs.Split.{Island}
use Rattle.pf_step.specs.declared.crew.CrewError.{CrewError}
use Rattle.pf_step.specs.declared.crew.CrewError.TheVariants.{OutOfMemory, NoThread, GateShut, CrewLost}
use Rattle.pf_events.specs.Crews.{CanFail}
use Rattle.pf_workers.specs.Crew.{FailsStanding, IsStartFailure, StandingCrew}
use Rattle.pf_scripts.specs.Play.{IsPeerError, IsCrewErrorOfPlay}
use Rattle.pf_scripts.specs.declared.error.SessionError.{SessionError}

module _ (always : Bool) (crew : Option ℕ) where
  -- an error of a play by some crew
  pub play_error : (can_fail : CrewError → Type 0) → ((error : CrewError) → can_fail error → IsCrewErrorOfPlay always crew error)
      → (error : CrewError) → ((error ≡ OutOfMemory) ⊎ can_fail error) ⊎ ((error ≡ GateShut) × (always ≡ false)) → IsCrewErrorOfPlay always crew error
  play_error can_fail fails error (inl (inl memory)) = subst (IsCrewErrorOfPlay always crew) (sym memory) tt
  play_error can_fail fails error (inl (inr failed)) = fails error failed
  play_error can_fail fails error (inr shut) = subst (IsCrewErrorOfPlay always crew) (sym shut.0) shut.1

  pub weaker_fault : (P Q : CrewError → Type 0) → ((error : CrewError) → P error → Q error) → (player : ℕ) (fault : SessionError)
      → IsPeerError P player fault → IsPeerError Q player fault
  weaker_fault P Q weaker player fault is = (is.0, weaker is.0 is.1, is.2)

module _ (always : Bool) (workers : ℕ) where
  -- an error of standing workers that pass an open gate
  standing : (before : StandingCrew) (error : CrewError) (after : StandingCrew) → FailsStanding true before error after → IsCrewErrorOfPlay always (Some workers) error
  standing before OutOfMemory after failed = tt
  standing before NoThread after failed = absurd failed.1
  standing before GateShut after failed = absurd (true≢false failed.1)
  standing before CrewLost after failed = refl

  pub standing_error : (error : CrewError) → CanFail (λ before (islands : List Island) e after. FailsStanding true before e after) error
      → IsCrewErrorOfPlay always (Some workers) error
  standing_error error can = standing can.0 error can.2 can.3

  pub start_error : (error : CrewError) → IsStartFailure error → IsCrewErrorOfPlay always (Some workers) error
  start_error OutOfMemory start = tt
  start_error NoThread start = refl
  start_error GateShut start = absurd start
  start_error CrewLost start = absurd start
