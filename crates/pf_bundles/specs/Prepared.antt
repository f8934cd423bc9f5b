-- Rows side by side, each in a lane of its own: what stays fixed of them during the rounds.
use Rattle.pf_lanes.specs.Lanes.{Lane, Lanes, number_in}
use Rattle.pf_rot.specs.Vector.{V2}
use Rattle.pf_rows.specs.declared.constraint.Constraint as constraint
use Rattle.pf_rows.specs.declared.constraint.InverseMass as mass
use Rattle.pf_rows.specs.Row.{Constraint, InverseMass}

-- vectors side by side, and the vector in a lane
pub record VectorLanes : Type 0 where
  pub x : Lanes
  pub y : Lanes

abbrev pub vector_in : Lane → VectorLanes → V2
vector_in k v = record { x = number_in k v.x; y = number_in k v.y }

-- inverse masses side by side
abbrev pub MassLanes : Type 0
MassLanes = mass.InverseMass Lanes

abbrev pub mass_in : Lane → MassLanes → InverseMass
mass_in k m = record {
  inverse_mass = number_in k m.inverse_mass;
  inverse_inertia = number_in k m.inverse_inertia;
}

-- constraints side by side
abbrev pub ConstraintLanes : Type 0
ConstraintLanes = constraint.Constraint VectorLanes Lanes Lanes

abbrev pub constraint_in : Lane → ConstraintLanes → Constraint
constraint_in k c = record {
  normal = vector_in k c.normal;
  tangent = vector_in k c.tangent;
  first_arm = vector_in k c.first_arm;
  second_arm = vector_in k c.second_arm;
  normal_mass = number_in k c.normal_mass;
  tangent_mass = number_in k c.tangent_mass;
  bias = number_in k c.bias;
  friction = number_in k c.friction;
}

-- what stays fixed during the rounds: inverse masses, constraints, and for each lane the limits of
-- spins and of impulses up to which its products are exact
pub record PreparedLanes : Type 0 where
  pub first_mass : MassLanes
  pub second_mass : MassLanes
  pub constraint : ConstraintLanes
  pub spin_limit : Lanes
  pub push_limit : Lanes
