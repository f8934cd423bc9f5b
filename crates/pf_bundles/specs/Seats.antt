-- Seats: where the unknowns of a row stand among those of all bodies and rows, how they are read
-- there, and how they are stored.
use Rattle.std.specs.Prelude.{◌≡◌, ◌<◌, ◌≤◌, ⊤, ℕ, zero, suc, List, [], ◌∷◌, IfSome, None, Option, Some}
use Rattle.std.specs.Prelude.{drop, length, slice_index_or, slice_set}
use Rattle.pf_lanes.specs.Lanes.{Lane}
use Rattle.pf_rows.specs.Impulses.{Impulses, no_impulses}
use Rattle.pf_rows.specs.Row.{IsSide}
use Rattle.pf_rows.specs.declared.row.Side.{Side}
use Rattle.pf_rows.specs.declared.row.Side.TheVariants.{Dynamic, Static}
use Rattle.pf_levels.specs.Levels.{RowPair}
use Rattle.pf_levels.specs.declared.level.TheConstants.{WIDTH}
use Rattle.pf_bundles.specs.Bundle.{Seat, lane_number, seat_at}
use Rattle.pf_bundles.specs.Unknowns.{Unknowns, Velocity, no_velocity}

-- ---- the unknowns of a row

-- the bodies of a row by their velocities, and its accumulated impulses
pub record SeatState : Type 0 where
  pub first : Velocity
  pub second : Velocity
  pub impulses : Impulses

-- that of a lane without a row
abbrev pub no_seat_state : SeatState
no_seat_state = record { first = no_velocity; second = no_velocity; impulses = no_impulses }

-- the velocity of the body on a side; a static body has none
abbrev pub velocity_at : List Velocity → Side → Velocity
velocity_at velocities Static = no_velocity
velocity_at velocities (Dynamic place) = slice_index_or velocities place no_velocity

-- the velocities where the body on a side has this one; that of a static body is not held
abbrev pub with_velocity : List Velocity → Side → Velocity → List Velocity
with_velocity velocities Static v = velocities
with_velocity velocities (Dynamic place) v = slice_set velocities place v

-- the unknowns have the bodies and the impulses of a seat
pub record IsSeatIn (n : Unknowns) (seat : Seat) : Type 0 where
  pub place : seat.place < length n.impulses
  pub first : IsSide (length n.velocities) seat.first
  pub second : IsSide (length n.velocities) seat.second

-- the unknowns of a row
abbrev pub seat_state_at : Unknowns → Seat → SeatState
seat_state_at n seat = record {
  first = velocity_at n.velocities seat.first;
  second = velocity_at n.velocities seat.second;
  impulses = slice_index_or n.impulses seat.place no_impulses;
}

-- the unknowns of a lane that has this seat, if it has one
abbrev pub seat_state_or : Unknowns → Option Seat → SeatState
seat_state_or n None = no_seat_state
seat_state_or n (Some seat) = seat_state_at n seat

-- the unknowns after those of a row are stored: the first body, and then the second
abbrev pub unknowns_with : Seat → SeatState → Unknowns → Unknowns
unknowns_with seat s n = record {
  velocities =
      with_velocity (with_velocity n.velocities seat.first s.first) seat.second s.second;
  impulses = slice_set n.impulses seat.place s.impulses;
}

-- the same of several rows, one after the other
abbrev pub unknowns_with_all : List Seat → List SeatState → Unknowns → Unknowns
unknowns_with_all [] states n = n
unknowns_with_all (seat ∷ seats) [] n = n
unknowns_with_all (seat ∷ seats) (s ∷ states) n =
    unknowns_with_all seats states (unknowns_with seat s n)

-- as many unknowns are there before and after a row is stored
pub record AreAsMany (before after : Unknowns) : Type 0 where
  pub velocities : length after.velocities ≡ length before.velocities
  pub impulses : length after.impulses ≡ length before.impulses

-- ---- seats of lanes, of which some may have no row

-- the unknowns have the bodies and the impulses of a lane that has this seat, if it has one
abbrev pub HasSeatIn : Unknowns → Option Seat → Type 0
HasSeatIn n seat = IfSome seat (IsSeatIn n)

-- the seat of a lane
abbrev pub lane_seat : Lane → List (Option Seat) → Option Seat
lane_seat k seats = slice_index_or seats (lane_number k) None

-- the seat of the row at a place, if there is one
abbrev pub seat_or : List RowPair → Option ℕ → Option Seat
seat_or pairs None = None
seat_or pairs (Some p) = Some (seat_at pairs p)

-- no lane has a row
abbrev pub AreAllFree : List (Option Seat) → Type 0
AreAllFree [] = ⊤
AreAllFree (None ∷ seats) = AreAllFree seats
AreAllFree (Some seat ∷ seats) = ⊥

-- rows are in the first lanes
abbrev pub AreFirst : List (Option Seat) → Type 0
AreFirst [] = ⊤
AreFirst (None ∷ seats) = AreAllFree seats
AreFirst (Some seat ∷ seats) = AreFirst seats

-- the seats of the lanes of a bundle
pub record AreLaneSeats (seats : List (Option Seat)) : Type 0 where
  pub first : AreFirst seats
  pub fits : length seats ≤ WIDTH

-- the seats of the first lanes, up to one without a row
abbrev pub taken_seats : List (Option Seat) → List Seat
taken_seats [] = []
taken_seats (None ∷ seats) = []
taken_seats (Some seat ∷ seats) = seat ∷ taken_seats seats

-- the unknowns after those of a lane are stored, if it has a row
abbrev pub unknowns_with_lane : Option Seat → SeatState → Unknowns → Unknowns
unknowns_with_lane None s n = n
unknowns_with_lane (Some seat) s n = unknowns_with seat s n

-- the same of several lanes, one after the other
abbrev pub unknowns_with_lanes : List (Option Seat) → List SeatState → Unknowns → Unknowns
unknowns_with_lanes [] states n = n
unknowns_with_lanes (seat ∷ seats) [] n = n
unknowns_with_lanes (seat ∷ seats) (s ∷ states) n =
    unknowns_with_lanes seats states (unknowns_with_lane seat s n)

-- ---- where they stand: the first place is that of static bodies, and of lanes without a row

-- the side of the body whose velocity stands at an index
abbrev pub side_at : ℕ → Side
side_at zero = Static
side_at (suc place) = Dynamic place

-- the index of the velocity of the body on a side
abbrev pub side_index : Side → ℕ
side_index Static = 0
side_index (Dynamic place) = suc place

-- the seat of a lane whose impulses and velocities stand at these indices
abbrev pub seat_with : ℕ → ℕ → ℕ → Option Seat
seat_with zero first second = None
seat_with (suc place) first second =
    Some (record { place = place; first = side_at first; second = side_at second })

-- the indices of a lane's seat
abbrev pub row_index : Option Seat → ℕ
row_index None = 0
row_index (Some seat) = suc seat.place

abbrev pub first_index : Option Seat → ℕ
first_index None = 0
first_index (Some seat) = side_index seat.first

abbrev pub second_index : Option Seat → ℕ
second_index None = 0
second_index (Some seat) = side_index seat.second

-- these are the indices of a seat
pub record AreIndices (r f s : ℕ) : Type 0 where
  pub row : row_index (seat_with r f s) ≡ r
  pub first : first_index (seat_with r f s) ≡ f
  pub second : second_index (seat_with r f s) ≡ s

-- the unknowns behind the first place
abbrev pub unknowns_behind_first : List Velocity → List Impulses → Unknowns
unknowns_behind_first velocities impulses = record {
  velocities = drop 1 velocities;
  impulses = drop 1 impulses;
}

-- the first place holds zeros
pub record HaveFirst (vs : List Velocity) (ps : List Impulses) : Type 0 where
  pub velocities : vs ≡ no_velocity ∷ drop 1 vs
  pub impulses : ps ≡ no_impulses ∷ drop 1 ps
