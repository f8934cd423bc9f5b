-- Unknowns of lanes: how they stand behind the first place, and which lanes have a row.
use Rattle.std.proofs.Common.{◌≡◌, ℕ, zero, suc, ◌<◌, ◌≤◌, List, [], ◌∷◌, All, length, map, refl, sym, ap, subst, arith}
use Rattle.std.specs.Prelude.{IfSome, None, Option, Some, drop, slice_get, slice_index_or, slice_set}
use Rattle.pf_rows.specs.Impulses.{Impulses, no_impulses}
use Rattle.pf_rows.specs.Row.{IsSide}
use Rattle.pf_rows.specs.declared.row.Side.{Side}
use Rattle.pf_rows.specs.declared.row.Side.TheVariants.{Dynamic, Static}
use Rattle.pf_lanes.specs.Lanes.{First, Fourth, Lane, Second, Third}
use Rattle.pf_levels.specs.Levels.{RowPair}
use Rattle.pf_bundles.specs.Bundle.{Seat, lane_row_or, row_of_lane, seat_at}
use Rattle.pf_bundles.specs.LaneRow.{LaneRow, row_in}
use Rattle.pf_bundles.specs.Unknowns.{Unknowns, Velocity, no_velocity}
use Rattle.pf_bundles.specs.Seats.{AreAllFree, AreFirst, HasSeatIn, HaveFirst, IsSeatIn, SeatState, unknowns_behind_first, unknowns_with_all, unknowns_with_lane, unknowns_with_lanes, seat_or, side_index, taken_seats, velocity_at, with_velocity}

-- ---- reading

-- the velocity at the index of a side
pub velocity_read : (velocities : List Velocity) (side : Side) → velocities ≡ no_velocity ∷ drop 1 velocities
    → slice_index_or velocities (side_index side) no_velocity ≡ velocity_at (drop 1 velocities) side
velocity_read velocities Static e = ap (λ v. slice_index_or v 0 no_velocity) e
velocity_read velocities (Dynamic place) e = ap (λ v. slice_index_or v (suc place) no_velocity) e

-- ---- storing

pub velocity_stored : (velocities : List Velocity) (side : Side) (v : Velocity) → 0 < length velocities
    → drop 1 (slice_set velocities (side_index side) v) ≡ with_velocity (drop 1 velocities) side v
velocity_stored [] side v h = absurd (omega arith)
velocity_stored (x ∷ xs) Static v h = refl
velocity_stored (x ∷ xs) (Dynamic place) v h = refl

pub impulses_stored : (impulses : List Impulses) (place : ℕ) (p : Impulses) → 0 < length impulses
    → drop 1 (slice_set impulses (suc place) p) ≡ slice_set (drop 1 impulses) place p
impulses_stored [] place p h = absurd (omega arith)
impulses_stored (x ∷ xs) place p h = refl

-- ---- lanes with a row are the first ones

free_seats : (seats : List (Option Seat)) (states : List SeatState) (n : Unknowns) → AreAllFree seats → unknowns_with_lanes seats states n ≡ n
free_seats [] states n h = refl
free_seats (None ∷ seats) [] n h = refl
free_seats (None ∷ seats) (s ∷ states) n h = free_seats seats states n h
free_seats (Some seat ∷ seats) states n h = absurd h

pub stored_taken : (seats : List (Option Seat)) (states : List SeatState) (n : Unknowns) → AreFirst seats
    → unknowns_with_lanes seats states n ≡ unknowns_with_all (taken_seats seats) states n
stored_taken [] states n h = refl
stored_taken (None ∷ seats) [] n h = refl
stored_taken (None ∷ seats) (s ∷ states) n h = free_seats seats states n h
stored_taken (Some seat ∷ seats) [] n h = refl
stored_taken (Some seat ∷ seats) (s ∷ states) n h = stored_taken seats states (unknowns_with_lane (Some seat) s n) h

no_seat_at : (seats : List (Option Seat)) (k : ℕ) → AreAllFree seats → slice_index_or seats k None ≡ None
no_seat_at [] k h = refl
no_seat_at (None ∷ seats) zero h = refl
no_seat_at (None ∷ seats) (suc k) h = no_seat_at seats k h
no_seat_at (Some seat ∷ seats) k h = absurd h

pub taken_at : (seats : List (Option Seat)) (k : ℕ) → AreFirst seats → slice_get (taken_seats seats) k ≡ slice_index_or seats k None
taken_at [] k h = refl
taken_at (None ∷ seats) zero h = refl
taken_at (None ∷ seats) (suc k) h = sym (no_seat_at seats k h)
taken_at (Some seat ∷ seats) zero h = refl
taken_at (Some seat ∷ seats) (suc k) h = taken_at seats k h

pub taken_fit : (seats : List (Option Seat)) → length (taken_seats seats) ≤ length seats
taken_fit [] = omega arith
taken_fit (None ∷ seats) = omega arith
taken_fit (Some seat ∷ seats) = let h = taken_fit seats in omega (arith, h)

-- ---- seats among numbers

-- what holds of the seats that are taken holds of each lane that has one
module _ (P : Seat → Type 0) (d : Option Seat) where
  free_each : (seats : List (Option Seat)) (k : ℕ) → k < length seats → AreAllFree seats → IfSome (slice_index_or seats k d) P
  free_each [] k h free = absurd (omega (arith, h))
  free_each (None ∷ seats) zero h free = tt
  free_each (None ∷ seats) (suc k) h free = free_each seats k (omega (arith, h)) free
  free_each (Some seat ∷ seats) k h free = absurd free

  pub taken_each : (seats : List (Option Seat)) (k : ℕ) → k < length seats → AreFirst seats → All P (taken_seats seats)
      → IfSome (slice_index_or seats k d) P
  taken_each [] k h first all = absurd (omega (arith, h))
  taken_each (None ∷ seats) zero h first all = tt
  taken_each (None ∷ seats) (suc k) h first all = free_each seats k (omega (arith, h)) first
  taken_each (Some seat ∷ seats) zero h first all = all 0 seat (omega arith)
  taken_each (Some seat ∷ seats) (suc k) h first all = taken_each seats k (omega (arith, h)) first (λ j e l. all (suc j) e (omega (arith, l)))

pub has_seat : (n : Unknowns) (seats : List (Option Seat)) (k : ℕ) (d : Option Seat) → k < length seats → AreFirst seats → All (IsSeatIn n) (taken_seats seats)
    → HasSeatIn n (slice_index_or seats k d)
has_seat n seats k d h first all = taken_each (IsSeatIn n) d seats k h first all

-- a seat stays where there are as many unknowns
behind_length : {A : Type 0} (xs ys : List A) → length xs ≡ length ys → length (drop 1 xs) ≡ length (drop 1 ys)
behind_length [] [] h = refl
behind_length [] (y ∷ ys) h = absurd (omega (arith, h))
behind_length (x ∷ xs) [] h = absurd (omega (arith, h))
behind_length (x ∷ xs) (y ∷ ys) h = omega (arith, h)

pub seat_kept : (vs ws : List Velocity) (ps qs : List Impulses) (seat : Option Seat) → length ws ≡ length vs → length qs ≡ length ps
    → HasSeatIn (unknowns_behind_first vs ps) seat → HasSeatIn (unknowns_behind_first ws qs) seat
seat_kept vs ws ps qs None velocities impulses h = tt
seat_kept vs ws ps qs (Some seat) velocities impulses h = record {
  place = subst (λ n. seat.place < n) (sym (behind_length qs ps impulses)) h.place;
  first = subst (λ n. IsSide n seat.first) (sym (behind_length ws vs velocities)) h.first;
  second = subst (λ n. IsSide n seat.second) (sym (behind_length ws vs velocities)) h.second;
}

-- ---- the first place

pub first_cleared : (velocities : List Velocity) (impulses : List Impulses) → 0 < length velocities → 0 < length impulses
    → HaveFirst (slice_set velocities 0 no_velocity) (slice_set impulses 0 no_impulses)
first_cleared [] impulses h k = absurd (omega (arith, h))
first_cleared (v ∷ velocities) [] h k = absurd (omega (arith, k))
first_cleared (v ∷ velocities) (p ∷ impulses) h k = record { velocities = refl; impulses = refl }

pub rest_kept : (velocities : List Velocity) (impulses : List Impulses) (v : Velocity) (p : Impulses)
    → unknowns_behind_first (slice_set velocities 0 v) (slice_set impulses 0 p) ≡ unknowns_behind_first velocities impulses
rest_kept [] [] v p = refl
rest_kept [] (y ∷ impulses) v p = refl
rest_kept (x ∷ velocities) [] v p = refl
rest_kept (x ∷ velocities) (y ∷ impulses) v p = refl

-- ---- the lanes of a level

pub seats_of_level : (pairs : List RowPair) (places : List ℕ) → length places ≤ 4
    → taken_seats (seat_or pairs (slice_get places 0) ∷ seat_or pairs (slice_get places 1) ∷ seat_or pairs (slice_get places 2) ∷ seat_or pairs (slice_get places 3) ∷ [])
    ≡ map (seat_at pairs) places
seats_of_level pairs [] h = refl
seats_of_level pairs (a ∷ []) h = refl
seats_of_level pairs (a ∷ b ∷ []) h = refl
seats_of_level pairs (a ∷ b ∷ c ∷ []) h = refl
seats_of_level pairs (a ∷ b ∷ c ∷ d ∷ []) h = refl
seats_of_level pairs (a ∷ b ∷ c ∷ d ∷ e ∷ places) h = absurd (omega (arith, h))

pub rows_of_level : (rows : List LaneRow) (places : List ℕ) (a b c d : LaneRow)
    → a ≡ lane_row_or rows (slice_get places 0) → b ≡ lane_row_or rows (slice_get places 1)
    → c ≡ lane_row_or rows (slice_get places 2) → d ≡ lane_row_or rows (slice_get places 3)
    → (k : Lane) → row_in k a b c d ≡ row_of_lane rows places k
rows_of_level rows places a b c d ea eb ec ed First = ea
rows_of_level rows places a b c d ea eb ec ed Second = eb
rows_of_level rows places a b c d ea eb ec ed Third = ec
rows_of_level rows places a b c d ea eb ec ed Fourth = ed
