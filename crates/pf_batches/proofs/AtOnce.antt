-- A bundle is solved as its level at once.
use Rattle.std.proofs.Common.{◌≡◌, ◌∙◌, ℕ, zero, suc, ◌<◌, ◌≤◌, ◌∷◌, Option, Some, List, [], length, map, refl, sym, ap, ap₂, inl, inr, subst, arith}
use Rattle.std.proofs.lemmas.Option.{none-some, same_Some}
use Rattle.std.specs.Prelude.{slice_get, slice_index_or}
use Rattle.pf_rot.specs.Vector.{V2}
use Rattle.pf_lanes.specs.Lanes.{First, Fourth, Lane, Second, Third}
use Rattle.pf_rows.specs.declared.row.Side.{Side}
use Rattle.pf_rows.specs.declared.row.Side.TheVariants.{Dynamic, Static}
use Rattle.pf_rows.specs.Row.{Constraint, InverseMass, Row}
use Rattle.pf_bundles.specs.Bundle.{Seat, lane_number}
use Rattle.pf_bundles.specs.LaneRow.{IsHeldBy, LaneRow, arm_on, mass_on, no_lane_row}
use Rattle.pf_bundles.specs.Unknowns.{Unknowns, Velocity}
use Rattle.pf_solver.specs.FastPath.{IsArmFor}
use Rattle.pf_solver.specs.Impulse.{ContactState}
use Rattle.pf_solver.specs.Velocities.{Batch, Step}
use Rattle.pf_batches.specs.Contact.{ContactLanes, seat_state_in, state_of}
use Rattle.pf_bundles.specs.Seats.{SeatState}
use Rattle.pf_batches.specs.Unknowns.{AreUnknownsOf, AreResults, AreRowsAtPlaces, AreSeatsOf, HoldEach, lane_result, motion_on, unknowns_after, unknowns_after_all, unknowns_at_once, result_at, seat_of, seat_state_from, seats_of, state_at}
use Rattle.pf_bundles.specs.Seats.{unknowns_with, unknowns_with_all, seat_state_at, velocity_at}
use Rattle.pf_batches.proofs.Levels.{results_at_once}

-- ---- one row

-- a body of the mass that a lane holds is read as in the batch
motion_held : (velocities : List Velocity) (mass : InverseMass) (side : Side)
    → record {
      velocity = (velocity_at velocities side).velocity;
      spin = (velocity_at velocities side).spin;
      mass = mass_on side mass;
    } ≡ motion_on velocities mass side
motion_held velocities mass Static = refl
motion_held velocities mass (Dynamic place) = refl

-- an arm that a lane holds can stand for that of its body
arm_held : (velocities : List Velocity) (mass : InverseMass) (side : Side) (arm : V2)
    → IsArmFor (motion_on velocities mass side) arm (arm_on side arm)
arm_held velocities mass Static arm = inr refl
arm_held velocities mass (Dynamic place) arm = inl refl

state_held : (n : Unknowns) (p : ℕ) (r : Row) (l : LaneRow) → IsHeldBy l r
    → state_of l.first_mass l.second_mass (seat_state_at n (seat_of p r))
    ≡ state_at n r.first_mass r.second_mass (seat_of p r)
state_held n p r l held =
    ap₂ (λ a b. state_of a b (seat_state_at n (seat_of p r))) held.first_mass held.second_mass
    ∙ ap₂ (λ a b. record { first = a; second = b; impulses = (seat_state_at n (seat_of p r)).impulses })
    (motion_held n.velocities r.first_mass r.entry.first)
    (motion_held n.velocities r.second_mass r.entry.second)

-- the arm of a body that stands still and that no impulse moves does not matter in a step
abbrev pub IgnoresStaticArms : Step → Type 0
IgnoresStaticArms step =
    (own : Constraint) (first second : V2) (m : ContactState)
    → IsArmFor m.first own.first_arm first → IsArmFor m.second own.second_arm second
    → step (record own { first_arm = first; second_arm = second }) m ≡ step own m

module _ (step : Step) (arms : IgnoresStaticArms step) where
  result_held : (n : Unknowns) (p : ℕ) (r : Row) (l : LaneRow) → IsHeldBy l r
      → lane_result step l (seat_state_at n (seat_of p r)) ≡ seat_state_from (result_at step n p r)
  result_held n p r l held =
      let m = state_at n r.first_mass r.second_mass (seat_of p r) in
      ap (λ (x : ContactState). seat_state_from x)
      (ap₂ step held.constraint (state_held n p r l held)
      ∙ arms r.constraint (arm_on r.entry.first r.constraint.first_arm) (arm_on r.entry.second r.constraint.second_arm) m
      (arm_held n.velocities r.first_mass r.entry.first r.constraint.first_arm)
      (arm_held n.velocities r.second_mass r.entry.second r.constraint.second_arm))

-- ---- the rows of a level

-- what a step makes of each of these rows
abbrev results : Step → Unknowns → List ℕ → List Row → List ContactState
results step n [] found = []
results step n (p ∷ places) [] = []
results step n (p ∷ places) (r ∷ found) = result_at step n p r ∷ results step n places found

are_results : (step : Step) (n : Unknowns) (rows : List Row) (places : List ℕ) (found : List Row)
    → AreRowsAtPlaces rows places found → AreResults step n places found (results step n places found)
are_results step n rows [] found at = refl
are_results step n rows (p ∷ places) [] at = absurd at
are_results step n rows (p ∷ places) (r ∷ found) at = (refl, are_results step n rows places found at.1)

-- the rows are stored by their unknowns
stored_by_unknowns : (step : Step) (n now : Unknowns) (places : List ℕ) (found : List Row)
    → unknowns_after_all (seats_of places found) (results step n places found) now
    ≡ unknowns_with_all (seats_of places found) (map seat_state_from (results step n places found)) now
stored_by_unknowns step n now [] found = refl
stored_by_unknowns step n now (p ∷ places) [] = refl
stored_by_unknowns step n now (p ∷ places) (r ∷ found) =
    stored_by_unknowns step n (unknowns_after (seat_of p r) (result_at step n p r) now) places found

-- what is stored are as many states as there are seats
same_stored : (seats : List Seat) (xs ys : List SeatState) (n : Unknowns)
    → ((i : ℕ) (seat : Seat) → slice_get seats i ≡ Some seat → slice_get xs i ≡ slice_get ys i)
    → unknowns_with_all seats xs n ≡ unknowns_with_all seats ys n
same_stored [] xs ys n same = refl
same_stored (seat ∷ seats) [] [] n same = refl
same_stored (seat ∷ seats) [] (y ∷ ys) n same = absurd (none-some y (same 0 seat refl))
same_stored (seat ∷ seats) (x ∷ xs) [] n same = absurd (none-some x (sym (same 0 seat refl)))
same_stored (seat ∷ seats) (x ∷ xs) (y ∷ ys) n same =
    ap (λ s. unknowns_with_all seats xs (unknowns_with seat s n)) (same_Some x y (same 0 seat refl))
    ∙ same_stored seats xs ys (unknowns_with seat y n) (λ i other at. same (suc i) other at)

-- the row of a seat, and what a step makes of it
record IsRowOfSeat (step : Step) (n : Unknowns) (rows : List Row) (seat : Seat) (o : Option SeatState) : Type 0 where
  row : Row
  stands : slice_get rows seat.place ≡ Some row
  own : seat ≡ seat_of seat.place row
  result : o ≡ Some (seat_state_from (result_at step n seat.place row))

row_of_seat : (step : Step) (n : Unknowns) (rows : List Row) (places : List ℕ) (found : List Row) (i : ℕ) (seat : Seat)
    → AreRowsAtPlaces rows places found → slice_get (seats_of places found) i ≡ Some seat
    → IsRowOfSeat step n rows seat (slice_get (map seat_state_from (results step n places found)) i)
row_of_seat step n rows [] found i seat at here = absurd (none-some seat here)
row_of_seat step n rows (p ∷ places) [] i seat at here = absurd (none-some seat here)
row_of_seat step n rows (p ∷ places) (r ∷ found) zero seat at here =
    let same : seat_of p r ≡ seat = same_Some (seat_of p r) seat here in
    subst (λ s. IsRowOfSeat step n rows s (Some (seat_state_from (result_at step n p r)))) same
    (record { row = r; stands = at.0; own = refl; result = refl })
row_of_seat step n rows (p ∷ places) (r ∷ found) (suc i) seat at here =
    row_of_seat step n rows places found i seat at.1 here

-- the states of four lanes
abbrev pub states_in : ContactLanes → List SeatState
states_in s = seat_state_in First s ∷ seat_state_in Second s ∷ seat_state_in Third s ∷ seat_state_in Fourth s ∷ []

-- a seat has a lane
lane_of : (seats : List Seat) (i : ℕ) (seat : Seat) (after : ContactLanes) → length seats ≤ 4 → slice_get seats i ≡ Some seat
    → (k : Lane) × (lane_number k ≡ i) × (slice_get (states_in after) i ≡ Some (seat_state_in k after))
lane_of seats zero seat after fits here = (First, refl, refl)
lane_of seats (suc zero) seat after fits here = (Second, refl, refl)
lane_of seats (suc (suc zero)) seat after fits here = (Third, refl, refl)
lane_of seats (suc (suc (suc zero))) seat after fits here = (Fourth, refl, refl)
lane_of seats (suc (suc (suc (suc i)))) seat after fits here =
    absurd (omega (arith, fits, within seats (suc (suc (suc (suc i)))) seat here))
  where
    within : (xs : List Seat) (j : ℕ) (x : Seat) → slice_get xs j ≡ Some x → j < length xs
    within [] j x at = absurd (none-some x at)
    within (y ∷ xs) zero x at = omega arith
    within (y ∷ xs) (suc j) x at = let h = within xs j x at in omega (arith, h)

module _ (step : Step) (arms : IgnoresStaticArms step) (b : Batch) (n : Unknowns) (fit : AreUnknownsOf b n) where
  pub bundle_at_once : (level : List ℕ) (lane_rows : List LaneRow) (seats : List Seat) (after : ContactLanes)
      → length seats ≤ 4 → AreSeatsOf b.rows level seats → HoldEach lane_rows b.rows
      → ((k : Lane) (seat : Seat) → slice_get seats (lane_number k) ≡ Some seat → seat_state_in k after
      ≡ lane_result step (slice_index_or lane_rows seat.place no_lane_row) (seat_state_at n seat))
      → unknowns_with_all seats (states_in after) n ≡ unknowns_at_once level step b.rows n
  bundle_at_once level lane_rows seats after fits (found, at, seats_are) hold values =
      ap (λ s. unknowns_with_all s (states_in after) n) seats_are
      ∙ same_stored (seats_of level found) (states_in after) (map seat_state_from (results step n level found)) n same
      ∙ sym (stored_by_unknowns step n n level found)
      ∙ results_at_once step b n fit level found (results step n level found) at
      (are_results step n b.rows level found at)
    where
      same : (i : ℕ) (seat : Seat) → slice_get (seats_of level found) i ≡ Some seat
          → slice_get (states_in after) i ≡ slice_get (map seat_state_from (results step n level found)) i
      same i seat here =
          let own : slice_get seats i ≡ Some seat = ap (λ s. slice_get s i) seats_are ∙ here in
          let lane = lane_of seats i seat after fits own in
          let row = row_of_seat step n b.rows level found i seat at here in
          let value = values lane.0 seat (ap (slice_get seats) lane.1 ∙ own) in
          lane.2
          ∙ ap (λ s. Some s)
          (value
          ∙ ap (λ s. lane_result step (slice_index_or lane_rows seat.place no_lane_row) (seat_state_at n s)) row.own
          ∙ result_held step arms n seat.place row.row (slice_index_or lane_rows seat.place no_lane_row) (hold seat.place row.row row.stands))
          ∙ sym row.result
