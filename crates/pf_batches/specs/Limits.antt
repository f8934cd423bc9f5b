-- Numbers within which the sums and products of a step in lanes are exact in doubles. In raw units
-- of 2^-24.
use Rattle.std.specs.Prelude.{ℕ, ℤ, ◌+◌, ◌*◌, ◌<◌, ◌≤◌}
use Rattle.std.specs.Int.RustNames.{unsigned_abs}
use Rattle.pf_num.specs.Fx.{sum}
use Rattle.pf_rot.specs.Vector.{V2, cross}
use Rattle.pf_rows.specs.Row.{Constraint, InverseMass}
use Rattle.pf_rows.specs.Small.{AreWithin, IsShort}
use Rattle.pf_bundles.specs.declared.limits.TheConstants.{PRODUCT_LIMIT, QUARTER_ARM_SPIN}
use Rattle.pf_bundles.specs.Limits.{HasShortProducts, IsSmallConstraint}
use Rattle.pf_solver.specs.Impulse.{ContactState}

-- the velocity of a body is at most this, and so are accumulated impulses
pub record IsContactWithin (limit : ℕ) (m : ContactState) : Type 0 where
  pub first : IsShort limit m.first.velocity
  pub second : IsShort limit m.second.velocity
  pub impulses : AreWithin limit m.impulses

-- both spins of a contact are at most this
pub record SpinsWithin (limit : ℕ) (m : ContactState) : Type 0 where
  pub first : unsigned_abs m.first.spin ≤ limit
  pub second : unsigned_abs m.second.spin ≤ limit

-- a step of a contact may begin: no product of a spin with an arm is too great
pub record IsReady (c : Constraint) (m : ContactState) : Type 0 where
  pub small : IsSmallConstraint c
  pub spins : SpinsWithin (2 * QUARTER_ARM_SPIN) m
  pub first : HasShortProducts (unsigned_abs m.first.spin) c.first_arm
  pub second : HasShortProducts (unsigned_abs m.second.spin) c.second_arm

-- what an impulse does to a body of this mass at this arm is exact: how it turns the body, and how
-- it changes its velocity and its spin
pub record IsExactOn (m : InverseMass) (arm impulse : V2) : Type 0 where
  pub moment_x : HasShortProducts (unsigned_abs impulse.x) arm
  pub moment_y : HasShortProducts (unsigned_abs impulse.y) arm
  pub change_x : unsigned_abs impulse.x * unsigned_abs m.inverse_mass < PRODUCT_LIMIT
  pub change_y : unsigned_abs impulse.y * unsigned_abs m.inverse_mass < PRODUCT_LIMIT
  pub turn : unsigned_abs (cross arm impulse) * unsigned_abs m.inverse_inertia < PRODUCT_LIMIT

-- what an impulse does to both bodies of a contact is exact
pub record IsImpulseExact (c : Constraint) (m : ContactState) (impulse : V2) : Type 0 where
  pub first : IsExactOn m.first.mass c.first_arm impulse
  pub second : IsExactOn m.second.mass c.second_arm impulse

-- both velocities of a contact are at most this
pub record AreShort (limit : ℕ) (m : ContactState) : Type 0 where
  pub first : IsShort limit m.first.velocity
  pub second : IsShort limit m.second.velocity

-- how much greater an impulse makes spins
pub record SpinsGrown (by : ℕ) (before after : ContactState) : Type 0 where
  pub first : unsigned_abs after.first.spin ≤ unsigned_abs before.first.spin + by
  pub second : unsigned_abs after.second.spin ≤ unsigned_abs before.second.spin + by

-- how much a step can make a vector greater
pub record IsGrown (by : ℕ) (before after : V2) : Type 0 where
  pub x : unsigned_abs after.x ≤ unsigned_abs before.x + by
  pub y : unsigned_abs after.y ≤ unsigned_abs before.y + by

-- how much a step can make the velocities and the accumulated impulses of a contact greater
pub record AreGrown (by : ℕ) (before after : ContactState) : Type 0 where
  pub first : IsGrown by before.first.velocity after.first.velocity
  pub second : IsGrown by before.second.velocity after.second.velocity
  pub normal : unsigned_abs after.impulses.normal ≤ unsigned_abs before.impulses.normal + by
  pub tangent : unsigned_abs after.impulses.tangent ≤ unsigned_abs before.impulses.tangent + by

-- what is added to a number is small enough for doubles, and so is the sum
pub record IsAddition (old added : ℤ) (limit : ℕ) : Type 0 where
  pub change : unsigned_abs added ≤ unsigned_abs old + limit
  pub total : unsigned_abs (sum old added) ≤ limit
