-- The arm of a body that stands still and that no impulse moves does not matter in a round.
use Rattle.std.proofs.Common.{◌≡◌, ◌∙◌, ⊎_elim, inl, inr, pos, neg_ℤ, refl, sym, ap, ap₂}
use Rattle.std.specs.Int.{int_max, int_min}
use Rattle.pf_num.specs.Fx.{difference, product, saturate, sum}
use Rattle.pf_num.proofs.Operations.{product-zero}
use Rattle.pf_rot.specs.Vector.{V2, add, cross, cross_sv, dot, scale, sub, zero_vector}
use Rattle.pf_rows.specs.Row.{Constraint}
use Rattle.pf_solver.specs.Impulse.{ContactState, Motion, after_friction_step, after_impulse, after_normal_step, after_round, after_warm_start, first_after, friction_limit, normal_impulse, relative_velocity, second_after, tangent_impulse}
use Rattle.pf_solver.specs.FastPath.{IsArmFor, StandsFor}
use Rattle.pf_solver.specs.Velocities.{static_motion}

-- a spin of 0 moves no point
still_point : (arm : V2) → cross_sv (pos 0) arm ≡ zero_vector
unfolding cross_sv
still_point arm = ap₂ (λ x y. record { x = neg_ℤ x; y = y }) (product-zero arm.y) (product-zero arm.x)

-- no impulse moves a static body
still_first : (arm impulse : V2) → first_after arm impulse static_motion ≡ static_motion
unfolding first_after scale sub difference saturate
still_first arm impulse =
    rw (product-zero impulse.x, product-zero impulse.y, product-zero (cross arm impulse)) refl

still_second : (arm impulse : V2) → second_after arm impulse static_motion ≡ static_motion
unfolding second_after scale add sum saturate
still_second arm impulse =
    rw (product-zero impulse.x, product-zero impulse.y, product-zero (cross arm impulse)) refl

-- with either of two arms that fit, the point has the same velocity and an impulse the same effect
module _ (a b : V2) (body : Motion) (fits : IsArmFor body b a) where
  point_same : add body.velocity (cross_sv body.spin a) ≡ add body.velocity (cross_sv body.spin b)
  point_same =
      ⊎_elim (λ (same : a ≡ b). ap (λ arm. add body.velocity (cross_sv body.spin arm)) same)
      (λ (still : body ≡ static_motion).
      ap (λ (m : Motion). add m.velocity (cross_sv m.spin a)) still
      ∙ ap (add zero_vector) (still_point a ∙ sym (still_point b))
      ∙ sym (ap (λ (m : Motion). add m.velocity (cross_sv m.spin b)) still))
      fits

  first_same : (impulse : V2) → first_after a impulse body ≡ first_after b impulse body
  first_same impulse =
      ⊎_elim (λ (same : a ≡ b). ap (λ arm. first_after arm impulse body) same)
      (λ (still : body ≡ static_motion).
      ap (first_after a impulse) still ∙ still_first a impulse
      ∙ sym (ap (first_after b impulse) still ∙ still_first b impulse))
      fits

  second_same : (impulse : V2) → second_after a impulse body ≡ second_after b impulse body
  second_same impulse =
      ⊎_elim (λ (same : a ≡ b). ap (λ arm. second_after arm impulse body) same)
      (λ (still : body ≡ static_motion).
      ap (second_after a impulse) still ∙ still_second a impulse
      ∙ sym (ap (second_after b impulse) still ∙ still_second b impulse))
      fits

  -- and the arm still fits after the impulse
  first_fits : (impulse : V2) → IsArmFor (first_after b impulse body) b a
  first_fits impulse =
      ⊎_elim (λ (same : a ≡ b). inl same)
      (λ (still : body ≡ static_motion). inr (ap (first_after b impulse) still ∙ still_first b impulse))
      fits

  second_fits : (impulse : V2) → IsArmFor (second_after b impulse body) b a
  second_fits impulse =
      ⊎_elim (λ (same : a ≡ b). inl same)
      (λ (still : body ≡ static_motion). inr (ap (second_after b impulse) still ∙ still_second b impulse))
      fits

-- the same for the constraint of a contact with other arms
module _ (c : Constraint) (a b : V2) where
  abbrev pub other : Constraint
  other = record c { first_arm = a; second_arm = b }

  module _ (m : ContactState) (first : IsArmFor m.first c.first_arm a) (second : IsArmFor m.second c.second_arm b) where
    relative_same : relative_velocity other m ≡ relative_velocity c m
    unfolding relative_velocity
    relative_same =
        ap₂ sub (point_same b c.second_arm m.second second) (point_same a c.first_arm m.first first)

    impulse_same : (impulse : V2) → after_impulse other impulse m ≡ after_impulse c impulse m
    unfolding after_impulse
    impulse_same impulse =
        ap₂ (λ x y. record m { first = x; second = y })
        (first_same a c.first_arm m.first first impulse)
        (second_same b c.second_arm m.second second impulse)

    normal_same : after_normal_step other m ≡ after_normal_step c m
    unfolding after_normal_step normal_impulse
    normal_same =
        ap (λ v.
        let total = int_max (pos 0)
        (sum m.impulses.normal (product c.normal_mass (sum (neg_ℤ (dot v c.normal)) c.bias))) in
        let after = after_impulse other (scale (difference total m.impulses.normal) c.normal) m in
        record after { impulses = record m.impulses { normal = total } })
        relative_same
        ∙ ap (λ (after : ContactState). record after { impulses = record m.impulses { normal = normal_impulse c m } })
        (impulse_same _)

    friction_same : after_friction_step other m ≡ after_friction_step c m
    unfolding after_friction_step tangent_impulse friction_limit
    friction_same =
        ap (λ v.
        let limit = product c.friction m.impulses.normal in
        let total = int_max (neg_ℤ limit)
        (int_min limit (sum m.impulses.tangent (product c.tangent_mass (neg_ℤ (dot v c.tangent))))) in
        let after = after_impulse other (scale (difference total m.impulses.tangent) c.tangent) m in
        record after { impulses = record m.impulses { tangent = total } })
        relative_same
        ∙ ap (λ (after : ContactState). record after { impulses = record m.impulses { tangent = tangent_impulse c m } })
        (impulse_same _)

  -- one warm start
  pub warm_start_same : (m : ContactState) → IsArmFor m.first c.first_arm a → IsArmFor m.second c.second_arm b
      → after_warm_start other m ≡ after_warm_start c m
  unfolding after_warm_start
  warm_start_same m first second = impulse_same m first second _

  -- one round
  pub round_same : (m : ContactState) → IsArmFor m.first c.first_arm a → IsArmFor m.second c.second_arm b
      → after_round other m ≡ after_round c m
  unfolding after_round after_normal_step after_impulse
  round_same m first second =
      ap (after_friction_step other) (normal_same m first second)
      ∙ friction_same (after_normal_step c m)
      (first_fits a c.first_arm m.first first _) (second_fits b c.second_arm m.second second _)

-- a constraint that stands for another gives the same
pub warm_start_for : (own c : Constraint) (m : ContactState) → StandsFor own m c
    → after_warm_start c m ≡ after_warm_start own m
warm_start_for own c m stands =
    ap (λ (x : Constraint). after_warm_start x m) stands.same
    ∙ warm_start_same own c.first_arm c.second_arm m stands.first_arm stands.second_arm

pub round_for : (own c : Constraint) (m : ContactState) → StandsFor own m c → after_round c m ≡ after_round own m
round_for own c m stands =
    ap (λ (x : Constraint). after_round x m) stands.same
    ∙ round_same own c.first_arm c.second_arm m stands.first_arm stands.second_arm
