-- The two steps of a round: bodies after an impulse, with what it adds to the accumulated one.
use Rattle.std.proofs.Common.{◌≡◌, ◌∙◌, ℤ, ap}
use Rattle.pf_num.specs.Fx.{difference}
use Rattle.pf_rot.specs.Vector.{scale}
use Rattle.pf_rows.specs.Row.{Constraint}
use Rattle.pf_solver.specs.Impulse.{ContactState, after_friction_step, after_impulse, after_normal_step, normal_impulse, tangent_impulse}

module _ (c : Constraint) (m after : ContactState) (total added : ℤ) where
  pub normal_step : total ≡ normal_impulse c m → added ≡ difference (normal_impulse c m) m.impulses.normal
      → after ≡ after_impulse c (scale added c.normal) m
      → record after { impulses = record after.impulses { normal = total } } ≡ after_normal_step c m
  unfolding after_normal_step after_impulse
  normal_step total_is added_is after_is =
      ap (λ (a : ContactState). record a { impulses = record a.impulses { normal = total } })
      (after_is ∙ ap (λ d. after_impulse c (scale d c.normal) m) added_is)
      ∙ ap
      (λ t.
      record (after_impulse c (scale (difference (normal_impulse c m) m.impulses.normal) c.normal) m) {
        impulses = record m.impulses { normal = t };
      })
      total_is

  pub friction_step : total ≡ tangent_impulse c m → added ≡ difference (tangent_impulse c m) m.impulses.tangent
      → after ≡ after_impulse c (scale added c.tangent) m
      → record after { impulses = record after.impulses { tangent = total } } ≡ after_friction_step c m
  unfolding after_friction_step after_impulse
  friction_step total_is added_is after_is =
      ap (λ (a : ContactState). record a { impulses = record a.impulses { tangent = total } })
      (after_is ∙ ap (λ d. after_impulse c (scale d c.tangent) m) added_is)
      ∙ ap
      (λ t.
      record (after_impulse c (scale (difference (tangent_impulse c m) m.impulses.tangent) c.tangent) m) {
        impulses = record m.impulses { tangent = t };
      })
      total_is
