-- The unknowns that the velocity phase changes, held apart from the bodies and rows of a batch: the
-- velocity and the spin of each body, and the accumulated impulses of each row.
use Rattle.std.specs.Prelude.{All, ◌≡◌, ◌<◌, ℕ, zero, suc, None, Option, Some, List, [], ◌∷◌}
use Rattle.std.specs.Prelude.{fold, length, map, slice_get, slice_index_or, slice_set}
use Rattle.pf_shapes.specs.Body.{BodyState}
use Rattle.pf_rows.specs.declared.row.Side.{Side}
use Rattle.pf_rows.specs.declared.row.Side.TheVariants.{Static, Dynamic}
use Rattle.pf_rows.specs.Small.{AreWithin, IsShort}
use Rattle.pf_rows.specs.Impulses.{Impulses, no_impulses}
use Rattle.pf_rows.specs.Row.{InverseMass, Row}
use Rattle.pf_lanes.specs.Lanes.{Lane}
use Rattle.pf_bundles.specs.Bundle.{Bundle, Seat, lane_number}
use Rattle.pf_bundles.specs.LaneRow.{IsHeldBy, LaneRow, lane_row_in, no_lane_row}
use Rattle.pf_bundles.specs.Prepared.{PreparedLanes}
use Rattle.pf_bundles.specs.Unknowns.{Unknowns, Velocity, no_velocity}
use Rattle.pf_batches.specs.Contact.{state_of}
use Rattle.pf_bundles.specs.Seats.{IsSeatIn, SeatState, with_velocity}
use Rattle.pf_solver.specs.Impulse.{ContactState, Motion}
use Rattle.pf_solver.specs.Velocities.{Batch, Step, static_motion}

-- as many unknowns as a batch has bodies and rows
pub record AreUnknownsOf (b : Batch) (n : Unknowns) : Type 0 where
  pub velocities : length n.velocities ≡ length b.bodies
  pub impulses : length n.impulses ≡ length b.rows

-- the velocity of a body
abbrev pub velocity_of : BodyState → Velocity
velocity_of b = record { velocity = b.velocity; spin = b.spin }

-- the velocity of a motion
abbrev pub velocity_in : Motion → Velocity
velocity_in m = record { velocity = m.velocity; spin = m.spin }

-- a body with this velocity
abbrev pub moving_body : Velocity → BodyState → BodyState
moving_body v b = record b { velocity = v.velocity; spin = v.spin }

-- a row with these accumulated impulses
abbrev pub loaded_row : Impulses → Row → Row
loaded_row p r = record r { entry = record r.entry { impulses = p } }

-- a list whose elements are each given one of another list; where that ends, the rest stay
abbrev pub with_each : {X Y : Type 0} → (X → Y → Y) → List X → List Y → List Y
with_each given [] ys = ys
with_each given (x ∷ xs) [] = []
with_each given (x ∷ xs) (y ∷ ys) = given x y ∷ with_each given xs ys

-- bodies with these velocities
abbrev pub with_velocities : List Velocity → List BodyState → List BodyState
with_velocities velocities bodies = with_each moving_body velocities bodies

-- rows with these accumulated impulses
abbrev pub with_impulses : List Impulses → List Row → List Row
with_impulses impulses rows = with_each loaded_row impulses rows

-- a batch with these unknowns
abbrev pub batch_with_unknowns : Unknowns → Batch → Batch
batch_with_unknowns n b = record {
  bodies = with_velocities n.velocities b.bodies;
  rows = with_impulses n.impulses b.rows;
}

-- the unknowns of a batch
abbrev pub batch_unknowns : Batch → Unknowns
batch_unknowns b = record {
  velocities = map velocity_of b.bodies;
  impulses = map (λ r. r.entry.impulses) b.rows;
}

-- the seat of the row at this place
abbrev pub seat_of : ℕ → Row → Seat
seat_of place r = record { place = place; first = r.entry.first; second = r.entry.second }

-- the seats of rows at these places, one after the other
abbrev pub seats_of : List ℕ → List Row → List Seat
seats_of [] rows = []
seats_of (p ∷ places) [] = []
seats_of (p ∷ places) (r ∷ rows) = seat_of p r ∷ seats_of places rows

-- velocities and accumulated impulses are at most this
pub record AreAllWithin (limit : ℕ) (n : Unknowns) : Type 0 where
  pub velocities : All (λ v. IsShort limit v.velocity) n.velocities
  pub impulses : All (AreWithin limit) n.impulses

-- the unknowns of a contact
abbrev pub seat_state_from : ContactState → SeatState
seat_state_from m = record {
  first = velocity_in m.first;
  second = velocity_in m.second;
  impulses = m.impulses;
}

-- what a step makes of the unknowns of a row that a lane holds
abbrev pub lane_result : Step → LaneRow → SeatState → SeatState
lane_result step l s =
    seat_state_from (step l.constraint (state_of l.first_mass l.second_mass s))

-- a lane holds the row of its seat: the one that stands at the place of that seat
abbrev pub HoldsSeatRow : List LaneRow → List Seat → PreparedLanes → Lane → Type 0
HoldsSeatRow rows seats p k =
    (seat : Seat) → slice_get seats (lane_number k) ≡ Some seat
    → lane_row_in k p ≡ slice_index_or rows seat.place no_lane_row

-- lanes hold rows: the lane at each place holds the row at that place
abbrev pub HoldEach : List LaneRow → List Row → Type 0
HoldEach lane_rows rows =
    (p : ℕ) (r : Row) → slice_get rows p ≡ Some r
    → IsHeldBy (slice_index_or lane_rows p no_lane_row) r

-- the motion of the body on a side: its velocity, with this mass unless it is static
abbrev pub motion_on : List Velocity → InverseMass → Side → Motion
motion_on velocities mass Static = static_motion
motion_on velocities mass (Dynamic place) =
    let v = slice_index_or velocities place no_velocity in
    record { velocity = v.velocity; spin = v.spin; mass = mass }

-- a row as it is read from the unknowns: its bodies, of these masses, and its accumulated impulses
abbrev pub state_at : Unknowns → InverseMass → InverseMass → Seat → ContactState
state_at n first_mass second_mass seat = record {
  first = motion_on n.velocities first_mass seat.first;
  second = motion_on n.velocities second_mass seat.second;
  impulses = slice_index_or n.impulses seat.place no_impulses;
}

-- what a step makes of a row at this place, read from the unknowns
abbrev pub result_at : Step → Unknowns → ℕ → Row → ContactState
result_at step n place r =
    step r.constraint (state_at n r.first_mass r.second_mass (seat_of place r))

-- the unknowns after what became of a row is stored: the first body, and then the second
abbrev pub unknowns_after : Seat → ContactState → Unknowns → Unknowns
unknowns_after seat m n = record {
  velocities =
      with_velocity (with_velocity n.velocities seat.first (velocity_in m.first)) seat.second
      (velocity_in m.second);
  impulses = slice_set n.impulses seat.place m.impulses;
}

-- the unknowns after what became of several rows is stored, one after the other
abbrev pub unknowns_after_all : List Seat → List ContactState → Unknowns → Unknowns
unknowns_after_all [] states n = n
unknowns_after_all (seat ∷ seats) [] n = n
unknowns_after_all (seat ∷ seats) (m ∷ states) n =
    unknowns_after_all seats states (unknowns_after seat m n)

-- the rows that stand at these places of a list of rows, one for each
abbrev pub AreRowsAtPlaces : List Row → List ℕ → List Row → Type 0
AreRowsAtPlaces rows [] found = found ≡ []
AreRowsAtPlaces rows (p ∷ places) [] = ⊥
AreRowsAtPlaces rows (p ∷ places) (r ∷ found) =
    (slice_get rows p ≡ Some r) × AreRowsAtPlaces rows places found

-- what a step makes of each row at its place, all of them read from the same unknowns
abbrev pub AreResults : Step → Unknowns → List ℕ → List Row → List ContactState → Type 0
AreResults step n [] found states = states ≡ []
AreResults step n (p ∷ places) [] states = states ≡ []
AreResults step n (p ∷ places) (r ∷ found) [] = ⊥
AreResults step n (p ∷ places) (r ∷ found) (m ∷ states) =
    (m ≡ result_at step n p r) × AreResults step n places found states

-- the unknowns `now` after what a step makes of the row at a place is stored; the row was read from
-- `n`
abbrev pub unknowns_where : Step → Unknowns → Unknowns → ℕ → Option Row → Unknowns
unknowns_where step n now place None = now
unknowns_where step n now place (Some r) =
    unknowns_after (seat_of place r) (result_at step n place r) now

-- the unknowns after the rows of a level at once, each read from the unknowns as they were before
abbrev pub unknowns_at_once : List ℕ → Step → List Row → Unknowns → Unknowns
unknowns_at_once level step rows n =
    fold (λ now p. unknowns_where step n now p (slice_get rows p)) n level

-- the unknowns after so many passes, each level by level
abbrev pub unknowns_in_levels : ℕ → List (List ℕ) → Step → List Row → Unknowns → Unknowns
unknowns_in_levels zero levels step rows n = n
unknowns_in_levels (suc k) levels step rows n =
    fold (λ now level. unknowns_at_once level step rows now)
    (unknowns_in_levels k levels step rows n) levels

-- these are the unknowns of what became of a batch
pub record AreUnknownsAfter (b after : Batch) (n : Unknowns) : Type 0 where
  pub unknowns : AreUnknownsOf b n
  pub batch : batch_with_unknowns n b ≡ after

-- these are the seats of the rows of a level
abbrev pub AreSeatsOf : List Row → List ℕ → List Seat → Type 0
AreSeatsOf rows level seats =
    (found : List Row) × AreRowsAtPlaces rows level found × (seats ≡ seats_of level found)

-- the seats of a bundle are places of unknowns and of rows, and its lanes hold these rows
pub record IsBundleOn (rows : List LaneRow) (n : Unknowns) (bundle : Bundle) : Type 0 where
  pub seats : All (IsSeatIn n) bundle.seats
  pub places : All (λ seat. seat.place < length rows) bundle.seats
  pub held : (k : Lane) → HoldsSeatRow rows bundle.seats bundle.prepared k

-- bundles of the levels of a batch, one for each, whose rows the lanes hold
pub record AreBundlesFor
    (b : Batch) (levels : List (List ℕ)) (rows : List LaneRow) (bundles : List Bundle)
    : Type 0 where
  pub count : length bundles ≡ length levels
  pub seats : (i : ℕ) (level : List ℕ) (bundle : Bundle) → slice_get levels i ≡ Some level
      → slice_get bundles i ≡ Some bundle → AreSeatsOf b.rows level bundle.seats
  pub hold : HoldEach rows b.rows
