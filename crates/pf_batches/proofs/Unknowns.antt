-- A batch with other numbers: what its rows read, and what is stored of them.
use Rattle.std.proofs.Common.{◌≡◌, ◌∙◌, ◌+◌, ◌<◌, ℕ, zero, suc, None, Some, List, [], ◌∷◌, get_or, length, map, set, take, length-set, refl, ap, ap₂, arith}
use Rattle.std.proofs.lemmas.List.{length-map}
use Rattle.std.specs.Prelude.{slice_get, slice_index_or, slice_set}
use Rattle.pf_shapes.specs.Body.{BodyState, no_state}
use Rattle.pf_rows.specs.declared.row.Side.{Side}
use Rattle.pf_rows.specs.declared.row.Side.TheVariants.{Static, Dynamic}
use Rattle.pf_rows.specs.Impulses.{Impulses, no_impulses}
use Rattle.pf_rows.specs.Row.{InverseMass, Row}
use Rattle.pf_levels.specs.Levels.{pair_of}
use Rattle.pf_solver.specs.Impulse.{ContactState, Motion}
use Rattle.pf_solver.specs.Velocities.{Batch, bodies_with, body_with, contact_state, motion_at, row_with, with_motion}
use Rattle.pf_batches.specs.Unknowns.{AreUnknownsOf, batch_with_unknowns, loaded_row, motion_on, moving_body, unknowns_after, batch_unknowns, seat_of, state_at, velocity_in, velocity_of, with_each, with_impulses, with_velocities}
use Rattle.pf_bundles.specs.Seats.{with_velocity}
use Rattle.pf_bundles.specs.Unknowns.{Unknowns, Velocity, no_velocity}
use Rattle.pf_bundles.specs.Bundle.{Seat}

-- ---- elements that are each given one of another list

module _ {X Y : Type 0} (given : X → Y → Y) where
  -- they are as many
  pub with_each_length : (xs : List X) (ys : List Y) → length (with_each given xs ys) ≡ length ys
  with_each_length [] ys = refl
  with_each_length (x ∷ xs) [] = refl
  with_each_length (x ∷ xs) (y ∷ ys) = ap suc (with_each_length xs ys)

  -- given their own they are as they were
  with_each_own : (own : Y → X) → ((y : Y) → given (own y) y ≡ y) → (ys : List Y) → with_each given (map own ys) ys ≡ ys
  with_each_own own same [] = refl
  with_each_own own same (y ∷ ys) = ap₂ (λ z zs. z ∷ zs) (same y) (with_each_own own same ys)

  -- what each was given is its own
  with_each_back : (own : Y → X) → ((x : X) (y : Y) → own (given x y) ≡ x) → (xs : List X) (ys : List Y)
      → length xs ≡ length ys → map own (with_each given xs ys) ≡ xs
  with_each_back own back [] [] same = refl
  with_each_back own back [] (y ∷ ys) same = absurd (omega (arith, same))
  with_each_back own back (x ∷ xs) [] same = absurd (omega (arith, same))
  with_each_back own back (x ∷ xs) (y ∷ ys) same =
      ap₂ (λ z zs. z ∷ zs) (back x y) (with_each_back own back xs ys (omega (arith, same)))

  -- what is replaced leaves nothing
  with_each_again : ((w x : X) (y : Y) → given x (given w y) ≡ given x y) → (before xs : List X) (ys : List Y)
      → length xs ≡ length ys → with_each given xs (with_each given before ys) ≡ with_each given xs ys
  with_each_again again [] xs ys same = refl
  with_each_again again (w ∷ before) [] [] same = refl
  with_each_again again (w ∷ before) (x ∷ xs) [] same = refl
  with_each_again again (w ∷ before) [] (y ∷ ys) same = absurd (omega (arith, same))
  with_each_again again (w ∷ before) (x ∷ xs) (y ∷ ys) same =
      ap₂ (λ z zs. z ∷ zs) (again w x y) (with_each_again again before xs ys (omega (arith, same)))

  next_given : (xs : List X) (ys : List Y) (k : ℕ) (d : X) (e : Y) → k < length xs
      → with_each given (take (suc k) xs) ys
      ≡ set (with_each given (take k xs) ys) k (given (get_or xs k d) (get_or (with_each given (take k xs) ys) k e))
  next_given [] ys k d e within = absurd (omega (arith, within))
  next_given (x ∷ xs) [] zero d e within = refl
  next_given (x ∷ xs) [] (suc k) d e within = refl
  next_given (x ∷ xs) (y ∷ ys) zero d e within = refl
  next_given (x ∷ xs) (y ∷ ys) (suc k) d e within =
      ap (λ rest. given x y ∷ rest) (next_given xs ys k d e (omega (arith, within)))

  -- one more is given, as a loop does it
  pub one_given : (xs : List X) (ys : List Y) (k : ℕ) (d : X) (e : Y) → k < length xs
      → with_each given (take (k + 1) xs) ys
      ≡ set (with_each given (take k xs) ys) k (given (get_or xs k d) (get_or (with_each given (take k xs) ys) k e))
  one_given xs ys k d e within =
      let more : k + 1 ≡ suc k = omega arith in
      ap (λ j. with_each given (take j xs) ys) more ∙ next_given xs ys k d e within

-- ---- lists of velocities and of impulses

-- the velocity of a body is the one that it was given
velocity_read : (velocities : List Velocity) (bodies : List BodyState) (p : ℕ) → length velocities ≡ length bodies
    → velocity_of (slice_index_or (with_velocities velocities bodies) p no_state) ≡ slice_index_or velocities p no_velocity
velocity_read [] [] p same = refl
velocity_read [] (b ∷ bodies) p same = absurd (omega (arith, same))
velocity_read (v ∷ velocities) [] p same = absurd (omega (arith, same))
velocity_read (v ∷ velocities) (b ∷ bodies) zero same = refl
velocity_read (v ∷ velocities) (b ∷ bodies) (suc p) same = velocity_read velocities bodies p (omega (arith, same))

-- a velocity is stored where the motion of the body is
velocity_stored : (velocities : List Velocity) (bodies : List BodyState) (p : ℕ) (m : Motion)
    → length velocities ≡ length bodies
    → with_velocities (slice_set velocities p (velocity_in m)) bodies
    ≡ slice_set (with_velocities velocities bodies) p
    (body_with m (slice_index_or (with_velocities velocities bodies) p no_state))
velocity_stored [] [] p m same = refl
velocity_stored [] (b ∷ bodies) p m same = absurd (omega (arith, same))
velocity_stored (v ∷ velocities) [] p m same = absurd (omega (arith, same))
velocity_stored (v ∷ velocities) (b ∷ bodies) zero m same = refl
velocity_stored (v ∷ velocities) (b ∷ bodies) (suc p) m same =
    ap (λ rest. record b { velocity = v.velocity; spin = v.spin } ∷ rest)
    (velocity_stored velocities bodies p m (omega (arith, same)))

-- the impulses of a row are those that it was given
impulses_read : (impulses : List Impulses) (rows : List Row) (p : ℕ) (r : Row) → length impulses ≡ length rows
    → slice_get rows p ≡ Some r
    → slice_get (with_impulses impulses rows) p ≡ Some (loaded_row (slice_index_or impulses p no_impulses) r)
impulses_read [] [] p r same at = absurd cc
impulses_read [] (x ∷ rows) p r same at = absurd (omega (arith, same))
impulses_read (i ∷ impulses) [] p r same at = absurd (omega (arith, same))
impulses_read (i ∷ impulses) (x ∷ rows) zero r same at =
    let is : x ≡ r = cc in ap (λ y. Some (loaded_row i y)) is
impulses_read (i ∷ impulses) (x ∷ rows) (suc p) r same at =
    impulses_read impulses rows p r (omega (arith, same)) at

-- where there is no row, there is none with other impulses
pub impulses_none : (impulses : List Impulses) (rows : List Row) (p : ℕ) → slice_get rows p ≡ None
    → slice_get (with_impulses impulses rows) p ≡ None
impulses_none [] rows p at = at
impulses_none (i ∷ impulses) [] p at = refl
impulses_none (i ∷ impulses) (x ∷ rows) zero at = absurd cc
impulses_none (i ∷ impulses) (x ∷ rows) (suc p) at = impulses_none impulses rows p at

-- the impulses of a row are stored where the row is
impulses_stored : (impulses : List Impulses) (rows : List Row) (p : ℕ) (r : Row) (new : Impulses)
    → length impulses ≡ length rows → slice_get rows p ≡ Some r
    → with_impulses (slice_set impulses p new) rows ≡ slice_set (with_impulses impulses rows) p (loaded_row new r)
impulses_stored [] [] p r new same at = absurd cc
impulses_stored [] (x ∷ rows) p r new same at = absurd (omega (arith, same))
impulses_stored (i ∷ impulses) [] p r new same at = absurd (omega (arith, same))
impulses_stored (i ∷ impulses) (x ∷ rows) zero r new same at =
    let is : x ≡ r = cc in ap (λ y. loaded_row new y ∷ with_impulses impulses rows) is
impulses_stored (i ∷ impulses) (x ∷ rows) (suc p) r new same at =
    ap (λ rest. loaded_row i x ∷ rest) (impulses_stored impulses rows p r new (omega (arith, same)) at)

-- with other impulses rows name the same bodies
pub pairs_loaded : (impulses : List Impulses) (rows : List Row)
    → map pair_of (with_impulses impulses rows) ≡ map pair_of rows
pairs_loaded [] rows = refl
pairs_loaded (p ∷ impulses) [] = refl
pairs_loaded (p ∷ impulses) (r ∷ rows) = ap (λ rest. pair_of r ∷ rest) (pairs_loaded impulses rows)

-- ---- one side

module _ (velocities : List Velocity) (bodies : List BodyState) (same : length velocities ≡ length bodies) where
  -- the motion of the body on a side is read from the velocities
  motion_read : (mass : InverseMass) (side : Side)
      → motion_at (with_velocities velocities bodies) mass side ≡ motion_on velocities mass side
  unfolding motion_at
  motion_read mass Static = refl
  motion_read mass (Dynamic p) =
      ap (λ (v : Velocity). record { velocity = v.velocity; spin = v.spin; mass = mass })
      (velocity_read velocities bodies p same)

  -- the motion of the body on a side is stored in the velocities
  motion_stored : (side : Side) (m : Motion)
      → with_velocities (with_velocity velocities side (velocity_in m)) bodies
      ≡ with_motion (with_velocities velocities bodies) side m
  unfolding with_motion
  motion_stored Static m = refl
  motion_stored (Dynamic p) m = velocity_stored velocities bodies p m same

-- the velocities stay as many
pub with_velocity_length : (velocities : List Velocity) (side : Side) (v : Velocity)
    → length (with_velocity velocities side v) ≡ length velocities
with_velocity_length velocities Static v = refl
with_velocity_length velocities (Dynamic p) v = length-set velocities p v

-- ---- a batch

-- a batch with its own numbers is as it was
pub own_unknowns : (b : Batch) → batch_with_unknowns (batch_unknowns b) b ≡ b
own_unknowns b =
    ap₂ (λ bodies rows. record { bodies = bodies; rows = rows })
    (with_each_own moving_body velocity_of (λ body. refl) b.bodies)
    (with_each_own loaded_row (λ (r : Row). r.entry.impulses) (λ r. refl) b.rows)

-- a batch has as many unknowns as it has bodies and rows
pub unknowns_fit : (b : Batch) → AreUnknownsOf b (batch_unknowns b)
unknowns_fit b = record {
  velocities = length-map b.bodies velocity_of;
  impulses = length-map b.rows (λ (r : Row). r.entry.impulses);
}

-- with other numbers the bodies are as many
pub bodies_as_many : (n : Unknowns) (b : Batch) → length (batch_with_unknowns n b).bodies ≡ length b.bodies
bodies_as_many n b = with_each_length moving_body n.velocities b.bodies

-- with other numbers the rows are as many
pub rows_as_many : (n : Unknowns) (b : Batch) → length (batch_with_unknowns n b).rows ≡ length b.rows
rows_as_many n b = with_each_length loaded_row n.impulses b.rows

module _ (b : Batch) (n : Unknowns) (fit : AreUnknownsOf b n) where
  -- the unknowns of a batch with these unknowns are these
  pub unknowns_back : batch_unknowns (batch_with_unknowns n b) ≡ n
  unknowns_back =
      ap₂ (λ velocities impulses. record { velocities = velocities; impulses = impulses })
      (with_each_back moving_body velocity_of (λ v body. refl) n.velocities b.bodies fit.velocities)
      (with_each_back loaded_row (λ (r : Row). r.entry.impulses) (λ p r. refl) n.impulses b.rows fit.impulses)

  -- of numbers that are replaced by others nothing is left
  pub unknowns_again : (before : Unknowns) → batch_with_unknowns n (batch_with_unknowns before b) ≡ batch_with_unknowns n b
  unknowns_again before =
      ap₂ (λ bodies rows. record { bodies = bodies; rows = rows })
      (with_each_again moving_body (λ w v body. refl) before.velocities n.velocities b.bodies fit.velocities)
      (with_each_again loaded_row (λ q p r. refl) before.impulses n.impulses b.rows fit.impulses)

  -- the row at a place has the impulses that stand there
  pub row_read : (p : ℕ) (r : Row) → slice_get b.rows p ≡ Some r
      → slice_get (batch_with_unknowns n b).rows p ≡ Some (loaded_row (slice_index_or n.impulses p no_impulses) r)
  row_read p r at = impulses_read n.impulses b.rows p r fit.impulses at

  -- what a row reads of the batch is what it reads of the unknowns
  pub state_read : (p : ℕ) (r : Row)
      → contact_state (batch_with_unknowns n b).bodies (loaded_row (slice_index_or n.impulses p no_impulses) r)
      ≡ state_at n r.first_mass r.second_mass (seat_of p r)
  unfolding contact_state
  state_read p r =
      ap₂ (λ (first second : Motion). record {
        first = first;
        second = second;
        impulses = slice_index_or n.impulses p no_impulses;
      })
      (motion_read n.velocities b.bodies fit.velocities r.first_mass r.entry.first)
      (motion_read n.velocities b.bodies fit.velocities r.second_mass r.entry.second)

  -- what is stored of a row in the unknowns is stored of it in the batch
  pub row_stored : (p : ℕ) (r : Row) (m : ContactState) → slice_get b.rows p ≡ Some r
      → batch_with_unknowns (unknowns_after (seat_of p r) m n) b
      ≡ record {
        bodies = bodies_with m (batch_with_unknowns n b).bodies r;
        rows = slice_set (batch_with_unknowns n b).rows p (row_with m (loaded_row (slice_index_or n.impulses p no_impulses) r));
      }
  row_stored p r m at =
      let half = with_velocity n.velocities r.entry.first (velocity_in m.first) in
      let long : length half ≡ length b.bodies =
      with_velocity_length n.velocities r.entry.first (velocity_in m.first) ∙ fit.velocities in
      ap₂ (λ bodies rows. record { bodies = bodies; rows = rows })
      (motion_stored half b.bodies long r.entry.second m.second
      ∙ ap (λ bodies. with_motion bodies r.entry.second m.second)
      (motion_stored n.velocities b.bodies fit.velocities r.entry.first m.first))
      (impulses_stored n.impulses b.rows p r m.impulses fit.impulses at)

  -- there are still as many unknowns
  pub fit_after : (seat : Seat) (m : ContactState) → AreUnknownsOf b (unknowns_after seat m n)
  fit_after seat m =
      let half = with_velocity n.velocities seat.first (velocity_in m.first) in
      record {
        velocities =
            with_velocity_length half seat.second (velocity_in m.second)
            ∙ with_velocity_length n.velocities seat.first (velocity_in m.first) ∙ fit.velocities;
        impulses = length-set n.impulses seat.place m.impulses ∙ fit.impulses;
      }
