-- Numbers within which the products of a row in a lane are exact in doubles. In raw units of 2^-24.
use Rattle.std.specs.Prelude.{◌≡◌, ◌⊎◌, ℕ, ◌+◌, ◌*◌, ◌^◌, ◌<◌, ◌≤◌}
use Rattle.std.specs.Int.RustNames.{unsigned_abs}
use Rattle.pf_rot.specs.Vector.{V2}
use Rattle.pf_rows.specs.Row.{Constraint, InverseMass}
use Rattle.pf_rows.specs.Small.{HasShortDirections}
use Rattle.pf_bundles.specs.declared.limits.TheConstants.{HALF_ARM_SPIN, LANE_DIRECTION_LIMIT, LANE_LIMIT, LEAST_PUSH, LONG_ARM_SPIN, LONGEST_ARM_SPIN, MIDDLE_ARM_SPIN, MIDDLE_PUSH, NUMBER_LIMIT, PRODUCT_LIMIT, QUARTER_ARM_SPIN, SHORT_ARM_SPIN, SMALL_PUSH}

-- the exact products of a number with both parts of a vector are below the limit
pub record HasShortProducts (n : ℕ) (v : V2) : Type 0 where
  pub x : n * unsigned_abs v.x < PRODUCT_LIMIT
  pub y : n * unsigned_abs v.y < PRODUCT_LIMIT

-- ---- constraints

-- the directions and the bias of a constraint are small
pub record IsSmallConstraint (c : Constraint) : Type 0 where
  pub directions : HasShortDirections LANE_DIRECTION_LIMIT c
  pub bias : unsigned_abs c.bias ≤ NUMBER_LIMIT

-- ---- spins

-- spins up to this have exact products with the arms of a constraint, and so have spins up to twice
-- this, which they are after a step
pub record IsSpinLimit (c : Constraint) (spin : ℕ) : Type 0 where
  pub limit : spin ≤ QUARTER_ARM_SPIN
  pub first_arm : HasShortProducts (2 * spin) c.first_arm
  pub second_arm : HasShortProducts (2 * spin) c.second_arm

-- the limits of spins that are tried
abbrev pub IsTriedSpin : ℕ → Type 0
IsTriedSpin spin =
    (spin ≡ QUARTER_ARM_SPIN) ⊎ ((spin ≡ HALF_ARM_SPIN) ⊎ ((spin ≡ SHORT_ARM_SPIN)
    ⊎ ((spin ≡ MIDDLE_ARM_SPIN) ⊎ ((spin ≡ LONG_ARM_SPIN) ⊎ (spin ≡ LONGEST_ARM_SPIN)))))

-- ---- impulses

-- the sum of the magnitudes of both parts of an arm
abbrev pub arm_reach : V2 → ℕ
arm_reach arm = unsigned_abs arm.x + unsigned_abs arm.y

-- what impulses of which no part is above `push` do to a body of this mass at this arm is exact in
-- doubles, and changes its spin by `spin` at most
pub record IsPushLimitOf (m : InverseMass) (arm : V2) (spin push : ℕ) : Type 0 where
  pub moment : push * arm_reach arm < PRODUCT_LIMIT
  pub change : push * unsigned_abs m.inverse_mass < PRODUCT_LIMIT
  pub exact : (push * arm_reach arm + 2 ^ 24) * unsigned_abs m.inverse_inertia
      < PRODUCT_LIMIT * 2 ^ 24
  pub turn : (push * arm_reach arm + 2 ^ 24) * unsigned_abs m.inverse_inertia ≤ spin * 2 ^ 48

-- and so for both bodies of a constraint
pub record IsPushLimit (c : Constraint) (a b : InverseMass) (spin push : ℕ) : Type 0 where
  pub limit : push ≤ LANE_LIMIT
  pub first : IsPushLimitOf a c.first_arm spin push
  pub second : IsPushLimitOf b c.second_arm spin push

-- the limits of impulses that are tried; with 0 each impulse is tested
abbrev pub IsTriedPush : ℕ → Type 0
IsTriedPush push =
    (push ≡ LANE_LIMIT) ⊎ ((push ≡ MIDDLE_PUSH) ⊎ ((push ≡ SMALL_PUSH) ⊎ ((push ≡ LEAST_PUSH)
    ⊎ (push ≡ 0))))

-- ---- both

-- the limits of spins and of impulses in a lane
pub record AreLimits (c : Constraint) (a b : InverseMass) (spin push : ℕ) : Type 0 where
  pub small : IsSmallConstraint c
  pub spins : IsSpinLimit c spin
  pub pushes : IsPushLimit c a b spin push

-- no greater ones that are tried are limits
pub record AreGreatest (c : Constraint) (a b : InverseMass) (spin push : ℕ) : Type 0 where
  pub spins : (other : ℕ) → IsTriedSpin other → IsSpinLimit c other → other ≤ spin
  pub pushes : (other : ℕ) → IsTriedPush other → IsPushLimit c a b spin other → other ≤ push

-- there are limits for a constraint
pub record HasLimits (c : Constraint) (a b : InverseMass) : Type 0 where
  pub spin : ℕ
  pub push : ℕ
  pub tried_spin : IsTriedSpin spin
  pub tried_push : IsTriedPush push
  pub limits : AreLimits c a b spin push
