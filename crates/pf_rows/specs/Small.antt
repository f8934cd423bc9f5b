-- How great vectors and numbers are, and when what a pre-step leaves is small enough for the fast
-- path of warm starting and of rounds, on which no sum saturates and each product fits 64 bits. In
-- units of 2^-24.
use Rattle.std.specs.Prelude.{ℕ, ◌*◌, ◌≤◌, ◌↔◌, Bool, IsTrue}
use Rattle.std.specs.Int.RustNames.{unsigned_abs}
use Rattle.pf_rot.specs.Vector.{V2}
use Rattle.pf_rows.specs.declared.limits.TheConstants.{ARM_LIMIT, CONSTRAINT_LIMIT, DIRECTION_LIMIT, INVERSE_INERTIA_LIMIT, INVERSE_MASS_LIMIT, TURN_LIMIT}
use Rattle.pf_rows.specs.Impulses.{Impulses}
use Rattle.pf_rows.specs.Row.{Constraint, InverseMass, Prepared}

-- both parts of a vector are at most this in magnitude
pub record IsShort (limit : ℕ) (v : V2) : Type 0 where
  pub x : unsigned_abs v.x ≤ limit
  pub y : unsigned_abs v.y ≤ limit

-- the normal and the tangent are so
pub record HasShortDirections (limit : ℕ) (c : Constraint) : Type 0 where
  pub normal : IsShort limit c.normal
  pub tangent : IsShort limit c.tangent

-- both arms are so
pub record HasShortArms (limit : ℕ) (c : Constraint) : Type 0 where
  pub first : IsShort limit c.first_arm
  pub second : IsShort limit c.second_arm

-- both accumulated impulses are at most this in magnitude
pub record AreWithin (limit : ℕ) (p : Impulses) : Type 0 where
  pub normal : unsigned_abs p.normal ≤ limit
  pub tangent : unsigned_abs p.tangent ≤ limit

-- the inverse mass and the inverse inertia are small
pub record IsHeavy (m : InverseMass) : Type 0 where
  pub inverse_mass : unsigned_abs m.inverse_mass ≤ INVERSE_MASS_LIMIT
  pub inverse_inertia : unsigned_abs m.inverse_inertia ≤ INVERSE_INERTIA_LIMIT

-- the arm is short, and impulses at it turn a body of this mass slowly
pub record IsSmallArm (m : InverseMass) (arm : V2) : Type 0 where
  pub short : IsShort ARM_LIMIT arm
  pub turn_x : unsigned_abs m.inverse_inertia * unsigned_abs arm.x ≤ TURN_LIMIT
  pub turn_y : unsigned_abs m.inverse_inertia * unsigned_abs arm.y ≤ TURN_LIMIT

-- the numbers of a constraint are small
pub record HasSmallNumbers (c : Constraint) : Type 0 where
  pub normal_mass : unsigned_abs c.normal_mass ≤ CONSTRAINT_LIMIT
  pub tangent_mass : unsigned_abs c.tangent_mass ≤ CONSTRAINT_LIMIT
  pub bias : unsigned_abs c.bias ≤ CONSTRAINT_LIMIT
  pub friction : unsigned_abs c.friction ≤ CONSTRAINT_LIMIT

-- all of it but the arms is small
pub record IsSmall (p : Prepared) : Type 0 where
  pub first_mass : IsHeavy p.first_mass
  pub second_mass : IsHeavy p.second_mass
  pub directions : HasShortDirections DIRECTION_LIMIT p.constraint
  pub numbers : HasSmallNumbers p.constraint

-- and so is the first arm; the second
pub record HasSmallFirstArm (p : Prepared) : Type 0 where
  pub rest : IsSmall p
  pub arm : IsSmallArm p.first_mass p.constraint.first_arm

pub record HasSmallSecondArm (p : Prepared) : Type 0 where
  pub rest : IsSmall p
  pub arm : IsSmallArm p.second_mass p.constraint.second_arm

-- which numbers of a row are small: all but the arms, all but the second arm, all but the first arm
pub record Sizes : Type 0 where
  pub is_small : Bool
  pub has_small_first_arm : Bool
  pub has_small_second_arm : Bool

-- the sizes of what a pre-step leaves
pub record AreSizesOf (p : Prepared) (sizes : Sizes) : Type 0 where
  pub rest : IsTrue sizes.is_small ↔ IsSmall p
  pub first_arm : IsTrue sizes.has_small_first_arm ↔ HasSmallFirstArm p
  pub second_arm : IsTrue sizes.has_small_second_arm ↔ HasSmallSecondArm p
