-- Rows that lanes hold: their unknowns, and what a step makes of them.
use Rattle.std.proofs.Common.{◌≡◌, ◌∙◌, ℕ, zero, suc, ◌+◌, ◌<◌, ◌≤◌, length, length-set, take, ap₂, ◌∷◌, None, Option, Some, List, [], refl, sym, ap, subst, arith}
use Rattle.std.proofs.lemmas.List.Elements.{All-cons, All-nil, All-head, All-set, All-tail, All-weaker}
use Rattle.std.specs.Prelude.{All, IfSome, slice_get, slice_index_or}
use Rattle.pf_lanes.specs.Lanes.{First, Fourth, Lane, Second, Third}
use Rattle.pf_rows.specs.declared.row.Side.{Side}
use Rattle.pf_rows.specs.declared.row.Side.TheVariants.{Dynamic, Static}
use Rattle.pf_rows.specs.Impulses.{no_impulses}
use Rattle.pf_rows.specs.Row.{IsSide}
use Rattle.pf_rows.specs.Small.{AreWithin, IsShort}
use Rattle.pf_bundles.specs.Bundle.{Seat, lane_number}
use Rattle.pf_bundles.specs.LaneRow.{lane_row_in}
use Rattle.pf_bundles.specs.Unknowns.{Unknowns, Velocity, no_velocity}
use Rattle.pf_bundles.specs.Prepared.{PreparedLanes, constraint_in}
use Rattle.pf_solver.specs.Velocities.{Step}
use Rattle.pf_batches.specs.Contact.{ContactLanes, IsSeatWithin, seat_state_in, state_in, state_of}
use Rattle.pf_bundles.specs.Seats.{SeatState}
use Rattle.pf_batches.specs.Limits.{AreGrown}
use Rattle.pf_batches.specs.Unknowns.{AreAllWithin, lane_result, seat_state_from}
use Rattle.pf_bundles.specs.Seats.{AreAsMany, IsSeatIn, unknowns_with, unknowns_with_all, seat_state_or, velocity_at, with_velocity}
use Rattle.pf_batches.proofs.Unknowns.{with_velocity_length}

-- what a step makes of a contact in a lane is what it makes of the unknowns of its row
pub result_in : (step : Step) (p : PreparedLanes) (k : Lane) (before after : ContactLanes) (s : SeatState)
    → state_in k p after ≡ step (constraint_in k p.constraint) (state_in k p before) → seat_state_in k before ≡ s
    → seat_state_in k after ≡ lane_result step (lane_row_in k p) s
result_in step p k before after s stepped read =
    ap seat_state_from stepped
    ∙ ap (λ (x : SeatState).
    seat_state_from (step (constraint_in k p.constraint) (state_of (lane_row_in k p).first_mass (lane_row_in k p).second_mass x)))
    read

-- ---- how great the numbers of a row are

-- what holds of each element, and of the default, holds of what is read at any place
read_holds : {A : Type 0} (P : A → Type 0) (xs : List A) (i : ℕ) (d : A) → All P xs → P d → P (slice_index_or xs i d)
read_holds P [] i d all here = here
read_holds P (x ∷ xs) zero d all here = All-head P x xs all
read_holds P (x ∷ xs) (suc i) d all here = read_holds P xs i d (All-tail P x xs all) here

velocity_within : (limit : ℕ) (velocities : List Velocity) (side : Side) → All (λ v. IsShort limit v.velocity) velocities
    → IsShort limit (velocity_at velocities side).velocity
velocity_within limit velocities Static all = record { x = omega arith; y = omega arith }
velocity_within limit velocities (Dynamic place) all =
    read_holds (λ (v : Velocity). IsShort limit v.velocity) velocities place no_velocity all
    (record { x = omega arith; y = omega arith })

pub seat_within : (limit : ℕ) (n : Unknowns) (o : Option Seat) → AreAllWithin limit n → IsSeatWithin limit (seat_state_or n o)
seat_within limit n None all = record {
  first = record { x = omega arith; y = omega arith };
  second = record { x = omega arith; y = omega arith };
  impulses = record { normal = omega arith; tangent = omega arith };
}
seat_within limit n (Some seat) all =
    record {
      first = velocity_within limit n.velocities seat.first all.velocities;
      second = velocity_within limit n.velocities seat.second all.velocities;
      impulses =
          read_holds (AreWithin limit) n.impulses seat.place no_impulses all.impulses
          (record { normal = omega arith; tangent = omega arith });
    }

-- so they are after a step that makes them greater by some number
grown_within : (limit by : ℕ) (p : PreparedLanes) (k : Lane) (before after : ContactLanes) (s : SeatState)
    → seat_state_in k before ≡ s → IsSeatWithin limit s → AreGrown by (state_in k p before) (state_in k p after)
    → IsSeatWithin (limit + by) (seat_state_in k after)
grown_within limit by p k before after s read within grown =
    let h : IsSeatWithin limit (seat_state_in k before) = subst (IsSeatWithin limit) (sym read) within in
    record {
      first = record { x = omega (arith, h.first.x, grown.first.x); y = omega (arith, h.first.y, grown.first.y) };
      second = record { x = omega (arith, h.second.x, grown.second.x); y = omega (arith, h.second.y, grown.second.y) };
      impulses = record {
        normal = omega (arith, h.impulses.normal, grown.normal);
        tangent = omega (arith, h.impulses.tangent, grown.tangent);
      };
    }

pub all_grown_within : (limit by : ℕ) (p : PreparedLanes) (n : Unknowns) (seats : List Seat) (before : ContactLanes) (result : Option ContactLanes)
    → AreAllWithin limit n → ((k : Lane) → seat_state_in k before ≡ seat_state_or n (slice_get seats (lane_number k)))
    → IfSome result (λ after. (k : Lane) → AreGrown by (state_in k p before) (state_in k p after))
    → IfSome result (λ after. (k : Lane) → IsSeatWithin (limit + by) (seat_state_in k after))
all_grown_within limit by p n seats before None all read grown = grown
all_grown_within limit by p n seats before (Some after) all read grown = λ k.
    let o = slice_get seats (lane_number k) in
    grown_within limit by p k before after (seat_state_or n o) (read k) (seat_within limit n o all) (grown k)

-- ---- rows that are stored one after the other

-- so do all numbers where a row is stored
pub many_stay : (seat : Seat) (s : SeatState) (n : Unknowns) → AreAsMany n (unknowns_with seat s n)
many_stay seat s n = record {
  velocities =
      with_velocity_length (with_velocity n.velocities seat.first s.first) seat.second s.second
      ∙ with_velocity_length n.velocities seat.first s.first;
  impulses = length-set n.impulses seat.place s.impulses;
}

row_next : (seats : List Seat) (states : List SeatState) (n : Unknowns) (k : ℕ) (d : Seat) (e : SeatState)
    → k < length seats → k < length states
    → unknowns_with_all (take (suc k) seats) (take (suc k) states) n
    ≡ unknowns_with (slice_index_or seats k d) (slice_index_or states k e) (unknowns_with_all (take k seats) (take k states) n)
row_next [] states n k d e here there = absurd (omega (arith, here))
row_next (x ∷ seats) [] n k d e here there = absurd (omega (arith, there))
row_next (x ∷ seats) (y ∷ states) n zero d e here there = refl
row_next (x ∷ seats) (y ∷ states) n (suc k) d e here there =
    row_next seats states (unknowns_with x y n) k d e (omega (arith, here)) (omega (arith, there))

-- a row more
pub row_more : (seats : List Seat) (states : List SeatState) (n now : Unknowns) (k : ℕ) (seat : Seat) (s : SeatState)
    → k < length seats → k < length states → seat ≡ slice_index_or seats k seat → s ≡ slice_index_or states k s
    → now ≡ unknowns_with_all (take k seats) (take k states) n
    → unknowns_with seat s now ≡ unknowns_with_all (take (k + 1) seats) (take (k + 1) states) n
row_more seats states n now k seat s here there seat_is s_is now_is =
    let more : k + 1 ≡ suc k = omega arith in
    ap (unknowns_with seat s) now_is
    ∙ ap₂ (λ x y. unknowns_with x y (unknowns_with_all (take k seats) (take k states) n)) seat_is s_is
    ∙ sym (row_next seats states n k seat s here there)
    ∙ ap (λ j. unknowns_with_all (take j seats) (take j states) n) (sym more)

-- all rows
pub rows_whole : (seats : List Seat) (states : List SeatState) (n : Unknowns) (k : ℕ) → length seats ≤ k → k ≤ length states
    → unknowns_with_all (take k seats) (take k states) n ≡ unknowns_with_all seats states n
rows_whole [] states n zero over within = refl
rows_whole [] states n (suc k) over within = refl
rows_whole (x ∷ seats) [] n zero over within = refl
rows_whole (x ∷ seats) [] n (suc k) over within = absurd (omega (arith, within))
rows_whole (x ∷ seats) (y ∷ states) n zero over within = absurd (omega (arith, over))
rows_whole (x ∷ seats) (y ∷ states) n (suc k) over within =
    rows_whole seats states (unknowns_with x y n) k (omega (arith, over)) (omega (arith, within))

-- a lane without a row
pub row_none : (seats : List Seat) (states : List SeatState) (n : Unknowns) (k : ℕ) → length seats ≤ k → k < length states
    → unknowns_with_all (take k seats) (take k states) n
    ≡ unknowns_with_all (take (k + 1) seats) (take (k + 1) states) n
row_none seats states n k over within =
    rows_whole seats states n k over (omega (arith, within))
    ∙ sym (rows_whole seats states n (k + 1) (omega (arith, over)) (omega (arith, within)))

-- numbers of a row are there as long as there are as many
seat_stays : (before after : Unknowns) (seat : Seat) → AreAsMany before after → IsSeatIn before seat → IsSeatIn after seat
seat_stays before after seat many h = record {
  place = omega (arith, many.impulses, h.place);
  first = subst (λ count. IsSide count seat.first) (sym many.velocities) h.first;
  second = subst (λ count. IsSide count seat.second) (sym many.velocities) h.second;
}

pub seats_stay : (before after : Unknowns) (seats : List Seat) → AreAsMany before after → All (IsSeatIn before) seats
    → All (IsSeatIn after) seats
seats_stay before after seats many all = All-weaker (IsSeatIn before) (IsSeatIn after) (λ seat. seat_stays before after seat many) seats all

-- ---- how great the numbers are where rows are stored

velocities_within : (limit : ℕ) (velocities : List Velocity) (side : Side) (v : Velocity) → All (λ v. IsShort limit v.velocity) velocities
    → IsShort limit v.velocity → All (λ v. IsShort limit v.velocity) (with_velocity velocities side v)
velocities_within limit velocities Static v all here = all
velocities_within limit velocities (Dynamic place) v all here =
    All-set (λ (v : Velocity). IsShort limit v.velocity) velocities place v here all

row_within : (limit : ℕ) (seat : Seat) (s : SeatState) (n : Unknowns) → AreAllWithin limit n → IsSeatWithin limit s
    → AreAllWithin limit (unknowns_with seat s n)
row_within limit seat s n all here = record {
  velocities =
      velocities_within limit (with_velocity n.velocities seat.first s.first) seat.second s.second
      (velocities_within limit n.velocities seat.first s.first all.velocities here.first) here.second;
  impulses = All-set (AreWithin limit) n.impulses seat.place s.impulses here.impulses all.impulses;
}

pub rows_within : (limit : ℕ) (seats : List Seat) (states : List SeatState) (n : Unknowns) → AreAllWithin limit n
    → All (IsSeatWithin limit) states → AreAllWithin limit (unknowns_with_all seats states n)
rows_within limit [] states n all here = all
rows_within limit (seat ∷ seats) [] n all here = all
rows_within limit (seat ∷ seats) (s ∷ states) n all here =
    rows_within limit seats states (unknowns_with seat s n)
    (row_within limit seat s n all (All-head (IsSeatWithin limit) s states here)) (All-tail (IsSeatWithin limit) s states here)

-- a greater limit
pub all_within_more : (limit more : ℕ) (n : Unknowns) → limit ≤ more → AreAllWithin limit n → AreAllWithin more n
all_within_more limit more n h all = record {
  velocities =
      All-weaker (λ (v : Velocity). IsShort limit v.velocity) (λ (v : Velocity). IsShort more v.velocity)
      (λ v short. record { x = omega (arith, h, short.x); y = omega (arith, h, short.y) }) n.velocities all.velocities;
  impulses =
      All-weaker (AreWithin limit) (AreWithin more)
      (λ p small. record { normal = omega (arith, h, small.normal); tangent = omega (arith, h, small.tangent) })
      n.impulses all.impulses;
}

-- the states of four lanes
pub states_within : (limit : ℕ) (after : ContactLanes) → ((k : Lane) → IsSeatWithin limit (seat_state_in k after))
    → All (IsSeatWithin limit) (seat_state_in First after ∷ seat_state_in Second after ∷ seat_state_in Third after ∷ seat_state_in Fourth after ∷ [])
states_within limit after each =
    let first = seat_state_in First after in
    let second = seat_state_in Second after in
    let third = seat_state_in Third after in
    let fourth = seat_state_in Fourth after in
    All-cons (IsSeatWithin limit) first (second ∷ third ∷ fourth ∷ []) (each First)
    (All-cons (IsSeatWithin limit) second (third ∷ fourth ∷ []) (each Second)
    (All-cons (IsSeatWithin limit) third (fourth ∷ []) (each Third)
    (All-cons (IsSeatWithin limit) fourth [] (each Fourth) (All-nil (IsSeatWithin limit)))))
