-- A row as a lane holds it: nothing moves a static body, so its masses and its arm are zeros.
use Rattle.std.specs.Prelude.{◌≡◌, ◌≤◌, ℤ, pos, ◌≤ℤ◌}
use Rattle.std.specs.Int.RustNames.{unsigned_abs}
use Rattle.pf_lanes.specs.Lanes.{First, Fourth, Lane, Second, Third, number_in}
use Rattle.pf_lanes.specs.declared.lanes.TheConstants.{EXACT_LIMIT}
use Rattle.pf_rot.specs.Vector.{V2, zero_vector}
use Rattle.pf_rows.specs.declared.row.Side.{Side}
use Rattle.pf_rows.specs.declared.row.Side.TheVariants.{Dynamic, Static}
use Rattle.pf_rows.specs.Row.{Constraint, InverseMass, Row, no_constraint, no_mass}
use Rattle.pf_bundles.specs.declared.limits.TheConstants.{LANE_LIMIT, QUARTER_ARM_SPIN}
use Rattle.pf_bundles.specs.Limits.{AreLimits, HasLimits}
use Rattle.pf_bundles.specs.Prepared.{PreparedLanes, constraint_in, mass_in}

-- what a lane holds of a row: inverse masses, the constraint, and the limits of spins and of
-- impulses up to which its products are exact
pub record LaneRow : Type 0 where
  pub first_mass : InverseMass
  pub second_mass : InverseMass
  pub constraint : Constraint
  pub spin_limit : ℤ
  pub push_limit : ℤ

-- a lane without a row: nothing moves in it
abbrev pub no_lane_row : LaneRow
no_lane_row = record {
  first_mass = no_mass;
  second_mass = no_mass;
  constraint = no_constraint;
  spin_limit = pos QUARTER_ARM_SPIN;
  push_limit = pos LANE_LIMIT;
}

-- the inverse mass, and the arm, of the body on a side
abbrev pub mass_on : Side → InverseMass → InverseMass
mass_on Static m = no_mass
mass_on (Dynamic place) m = m

abbrev pub arm_on : Side → V2 → V2
arm_on Static arm = zero_vector
arm_on (Dynamic place) arm = arm

-- the constraint of a row, without the arms of static bodies
abbrev pub constraint_on : Side → Side → Constraint → Constraint
constraint_on first second c = record c {
  first_arm = arm_on first c.first_arm;
  second_arm = arm_on second c.second_arm;
}

-- a lane holds a row
pub record IsHeldBy (l : LaneRow) (r : Row) : Type 0 where
  pub first_mass : l.first_mass ≡ mass_on r.entry.first r.first_mass
  pub second_mass : l.second_mass ≡ mass_on r.entry.second r.second_mass
  pub constraint : l.constraint ≡ constraint_on r.entry.first r.entry.second r.constraint

-- doubles hold each number of an inverse mass
pub record MassFits (m : InverseMass) : Type 0 where
  pub inverse_mass : unsigned_abs m.inverse_mass ≤ EXACT_LIMIT
  pub inverse_inertia : unsigned_abs m.inverse_inertia ≤ EXACT_LIMIT

-- those of a constraint that its limits do not bound
pub record ConstraintFits (c : Constraint) : Type 0 where
  pub normal_mass : unsigned_abs c.normal_mass ≤ EXACT_LIMIT
  pub tangent_mass : unsigned_abs c.tangent_mass ≤ EXACT_LIMIT
  pub friction : unsigned_abs c.friction ≤ EXACT_LIMIT

-- of inverse masses and a constraint, for which there are limits
pub record ContactFits (a b : InverseMass) (c : Constraint) : Type 0 where
  pub first_mass : MassFits a
  pub second_mass : MassFits b
  pub constraint : ConstraintFits c
  pub limits : HasLimits c a b

-- of a row, but for the masses and the arms of static bodies
abbrev pub RowFits : Row → Type 0
RowFits r =
    ContactFits (mass_on r.entry.first r.first_mass) (mass_on r.entry.second r.second_mass)
    (constraint_on r.entry.first r.entry.second r.constraint)

-- the limits of what a lane holds, neither of them below 0
pub record HasItsLimits (l : LaneRow) : Type 0 where
  pub spin_sign : pos 0 ≤ℤ l.spin_limit
  pub push_sign : pos 0 ≤ℤ l.push_limit
  pub limits :
      AreLimits l.constraint l.first_mass l.second_mass
      (unsigned_abs l.spin_limit) (unsigned_abs l.push_limit)

-- what a lane holds
abbrev pub lane_row_in : Lane → PreparedLanes → LaneRow
lane_row_in k p = record {
  first_mass = mass_in k p.first_mass;
  second_mass = mass_in k p.second_mass;
  constraint = constraint_in k p.constraint;
  spin_limit = number_in k p.spin_limit;
  push_limit = number_in k p.push_limit;
}

-- one of four rows, by its lane
abbrev pub row_in : Lane → LaneRow → LaneRow → LaneRow → LaneRow → LaneRow
row_in First a b c d = a
row_in Second a b c d = b
row_in Third a b c d = c
row_in Fourth a b c d = d
