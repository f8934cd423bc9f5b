-- Contacts side by side, each in a lane of its own: what the solver reads and writes of a level.
use Rattle.std.specs.Prelude.{ℕ}
use Rattle.pf_lanes.specs.Lanes.{First, Fourth, Lane, Lanes, Second, Third, number_in}
use Rattle.pf_rows.specs.Impulses.{Impulses}
use Rattle.pf_rows.specs.Row.{InverseMass}
use Rattle.pf_rows.specs.Small.{AreWithin, IsShort}
use Rattle.pf_bundles.specs.Unknowns.{Velocity}
use Rattle.pf_bundles.specs.Seats.{SeatState}
use Rattle.pf_bundles.specs.Prepared.{MassLanes, PreparedLanes, VectorLanes, mass_in, vector_in}
use Rattle.pf_solver.specs.Impulse.{ContactState, Motion}

-- what impulses change of bodies side by side
pub record MotionLanes : Type 0 where
  pub velocity : VectorLanes
  pub spin : Lanes

abbrev pub motion_in : Lane → MassLanes → MotionLanes → Motion
motion_in k mass m = record {
  velocity = vector_in k m.velocity;
  spin = number_in k m.spin;
  mass = mass_in k mass;
}

-- the bodies of contacts side by side, and their accumulated impulses
pub record ContactLanes : Type 0 where
  pub first : MotionLanes
  pub second : MotionLanes
  pub normal : Lanes
  pub tangent : Lanes

abbrev pub state_in : Lane → PreparedLanes → ContactLanes → ContactState
state_in k p s = record {
  first = motion_in k p.first_mass s.first;
  second = motion_in k p.second_mass s.second;
  impulses = record { normal = number_in k s.normal; tangent = number_in k s.tangent };
}

-- the velocity of a body in a lane
abbrev pub velocity_in_lane : Lane → MotionLanes → Velocity
velocity_in_lane k m = record { velocity = vector_in k m.velocity; spin = number_in k m.spin }

-- the accumulated impulses of a row in a lane
abbrev pub impulses_in_lane : Lane → Lanes → Lanes → Impulses
impulses_in_lane k normal tangent = record {
  normal = number_in k normal;
  tangent = number_in k tangent;
}

-- the unknowns of a lane
abbrev pub seat_state_in : Lane → ContactLanes → SeatState
seat_state_in k s = record {
  first = velocity_in_lane k s.first;
  second = velocity_in_lane k s.second;
  impulses = impulses_in_lane k s.normal s.tangent;
}

-- one of four, by its lane
abbrev pub seat_state_of : Lane → SeatState → SeatState → SeatState → SeatState → SeatState
seat_state_of First a b c d = a
seat_state_of Second a b c d = b
seat_state_of Third a b c d = c
seat_state_of Fourth a b c d = d

-- a contact of bodies of these masses
abbrev pub state_of : InverseMass → InverseMass → SeatState → ContactState
state_of first_mass second_mass s = record {
  first = record { velocity = s.first.velocity; spin = s.first.spin; mass = first_mass };
  second = record { velocity = s.second.velocity; spin = s.second.spin; mass = second_mass };
  impulses = s.impulses;
}

-- velocities and accumulated impulses are at most this
pub record IsSeatWithin (limit : ℕ) (s : SeatState) : Type 0 where
  pub first : IsShort limit s.first.velocity
  pub second : IsShort limit s.second.velocity
  pub impulses : AreWithin limit s.impulses
