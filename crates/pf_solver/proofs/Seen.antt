-- An island is solved alone as it is in the whole list.
use Rattle.std.proofs.Common.{◌≡◌, ◌≢◌, ◌∙◌, ℕ, zero, suc, ◌<◌, Bool, true, false, cond, List, [], ◌∷◌, length, map, filter, refl, sym, ap, ap₂, subst, arith, set, get_or}
use Rattle.std.proofs.lemmas.Bool.{ne_eqb, or_from, true≢false}
use Rattle.std.proofs.lemmas.Bool.Decides.{Decides-eqb}
use Rattle.std.proofs.lemmas.List.{get_or-set_same, get_or-set_other, length-map}
use Rattle.std.proofs.lemmas.List.Elements.{All-head, All-tail, All-map, All-weaker}
use Rattle.std.proofs.Math.ListN.{get_or-map}
use Rattle.std.specs.Prelude.{All, ◌==◌, ◌||◌, if◌then◌else◌, slice_index_or, slice_set}
use Rattle.pf_shapes.specs.Body.{BodyState, at_rest, no_state}
use Rattle.pf_shapes.specs.Scene.{Scene}
use Rattle.pf_manifold.specs.Key.{IsRising}
use Rattle.pf_rows.specs.declared.row.Side.{Side}
use Rattle.pf_rows.specs.declared.row.Side.TheVariants.{Static, Dynamic}
use Rattle.pf_rows.specs.Row.{InverseMass, Row}
use Rattle.pf_solver.specs.Alone.{seen_from}
use Rattle.pf_solver.specs.declared.velocities.TheConstants.{ROUNDS}
use Rattle.pf_solver.specs.Bodies.{after_gravity, after_motion, after_timer, each_awake, gravity_per_tick}
use Rattle.pf_solver.specs.Impulse.{ContactState, Motion, after_round, after_warm_start}
use Rattle.pf_solver.specs.Solve.{pre_step_body, prepared_row, solved_batch}
use Rattle.pf_solver.specs.Velocities.{Batch, Step, bodies_after, bodies_with, contact_state, motion_at, pass, passes, row_after, with_motion}
use Rattle.pf_islands.specs.Island.{has_number, place_of, states_of, is_among, side_among, touches_one, row_among, rows_among, IsOwnSide, IsOwnOrOther}
use Rattle.pf_solver.proofs.Passes.{after_length, bodies_length, with_length}
use Rattle.pf_solver.proofs.Solved.{passes_bodies, passes_rows, pass_rows, still}

-- ---- numbers

-- two numbers are equal exactly where the test says so
same_number : (m n : ℕ) → (m == n) ≡ true → m ≡ n
same_number m n h = (Decides-eqb m n).0 h

other_number : (m n : ℕ) → (m == n) ≡ false → m ≢ n
other_number m n h = λ same. true≢false (sym ((Decides-eqb m n).1 same) ∙ h)

-- no number below the least is one of a list that rises
below_least : (least : ℕ) (numbers : List ℕ) (n : ℕ) → IsRising least numbers → n < least
    → has_number numbers n ≡ false
below_least least [] n h below = refl
below_least least (m ∷ numbers) n h below =
    or_from (m == n) (has_number numbers n) (ne_eqb m n (omega (arith, h.0, below)))
    (below_least (suc m) numbers n h.1 (omega (arith, h.0, below)))

-- a number of the list is below a limit of all
number_within : (limit : ℕ) (numbers : List ℕ) (n : ℕ) → All (λ m. m < limit) numbers
    → has_number numbers n ≡ true → n < limit
number_within limit [] n all h = absurd (true≢false (sym h))
number_within limit (m ∷ numbers) n all h =
    by (m == n) refl h (number_within limit numbers n (All-tail (λ k. k < limit) m numbers all))
  where
    by : (e : Bool) → (m == n) ≡ e → (e || has_number numbers n) ≡ true
        → (has_number numbers n ≡ true → n < limit) → n < limit
    by true e h rest =
        subst (λ k. k < limit) (same_number m n e) (All-head (λ k. k < limit) m numbers all)
    by false e h rest = rest h

-- ---- states of some bodies

-- the state of one of them
read_in : (numbers : List ℕ) (bodies : List BodyState) (n : ℕ) → has_number numbers n ≡ true
    → slice_index_or (states_of numbers bodies) (place_of numbers n) no_state
    ≡ slice_index_or bodies n no_state
read_in [] bodies n h = absurd (true≢false (sym h))
read_in (m ∷ numbers) bodies n h = by (m == n) refl h (read_in numbers bodies n)
  where
    by : (e : Bool) → (m == n) ≡ e → (e || has_number numbers n) ≡ true
        → (has_number numbers n ≡ true
        → slice_index_or (states_of numbers bodies) (place_of numbers n) no_state
        ≡ slice_index_or bodies n no_state)
        → slice_index_or (states_of (m ∷ numbers) bodies)
        (if e then 0 else suc (place_of numbers n)) no_state
        ≡ slice_index_or bodies n no_state
    by true e h rest = ap (λ k. slice_index_or bodies k no_state) (same_number m n e)
    by false e h rest = rest h

-- a write of another body
write_out : (numbers : List ℕ) (bodies : List BodyState) (n : ℕ) (b : BodyState)
    → has_number numbers n ≡ false
    → states_of numbers (slice_set bodies n b) ≡ states_of numbers bodies
write_out [] bodies n b h = refl
write_out (m ∷ numbers) bodies n b h = by (m == n) refl h (write_out numbers bodies n b)
  where
    by : (e : Bool) → (m == n) ≡ e → (e || has_number numbers n) ≡ false
        → (has_number numbers n ≡ false
        → states_of numbers (slice_set bodies n b) ≡ states_of numbers bodies)
        → states_of (m ∷ numbers) (slice_set bodies n b) ≡ states_of (m ∷ numbers) bodies
    by true e h rest = absurd (true≢false h)
    by false e h rest =
        ap₂ (λ x xs. x ∷ xs)
        (get_or-set_other bodies n m b no_state (other_number m n e)) (rest h)

-- a write of one of them
write_in : (least : ℕ) (numbers : List ℕ) (bodies : List BodyState) (n : ℕ) (b : BodyState)
    → IsRising least numbers → n < length bodies → has_number numbers n ≡ true
    → slice_set (states_of numbers bodies) (place_of numbers n) b
    ≡ states_of numbers (slice_set bodies n b)
write_in least [] bodies n b rising within h = absurd (true≢false (sym h))
write_in least (m ∷ numbers) bodies n b rising within h =
    by (m == n) refl h (write_in (suc m) numbers bodies n b rising.1 within)
  where
    by : (e : Bool) → (m == n) ≡ e → (e || has_number numbers n) ≡ true
        → (has_number numbers n ≡ true
        → slice_set (states_of numbers bodies) (place_of numbers n) b
        ≡ states_of numbers (slice_set bodies n b))
        → slice_set (states_of (m ∷ numbers) bodies) (if e then 0 else suc (place_of numbers n)) b
        ≡ states_of (m ∷ numbers) (slice_set bodies n b)
    by true e h rest =
        let same = same_number m n e in
        ap₂ (λ x xs. x ∷ xs)
        (sym (ap (λ k. get_or (set bodies n b) k no_state) same
        ∙ get_or-set_same bodies n b no_state within))
        (sym (write_out numbers bodies n b
        (below_least (suc m) numbers n rising.1 (omega (arith, same)))))
    by false e h rest =
        ap₂ (λ x xs. x ∷ xs)
        (sym (get_or-set_other bodies n m b no_state (other_number m n e))) (rest h)

-- ---- one row

module _ (numbers : List ℕ) where
  -- the motion of a body on a side
  motion_in : (bodies : List BodyState) (mass : InverseMass) (side : Side) → IsOwnSide numbers side
      → motion_at (states_of numbers bodies) mass (side_among numbers side)
      ≡ motion_at bodies mass side
  unfolding motion_at
  motion_in bodies mass Static own = refl
  motion_in bodies mass (Dynamic n) own = rw (read_in numbers bodies n own) refl

  -- a motion of one of them
  with_in : (bodies : List BodyState) (side : Side) (m : Motion) → IsRising 0 numbers
      → All (λ n. n < length bodies) numbers → IsOwnSide numbers side
      → with_motion (states_of numbers bodies) (side_among numbers side) m
      ≡ states_of numbers (with_motion bodies side m)
  unfolding with_motion
  with_in bodies Static m rising within own = refl
  with_in bodies (Dynamic n) m rising within own =
      rw (read_in numbers bodies n own)
      (write_in 0 numbers bodies n _ rising (number_within (length bodies) numbers n within own) own)

  -- a motion of another body
  with_out : (bodies : List BodyState) (side : Side) (m : Motion) → is_among numbers side ≡ false
      → states_of numbers (with_motion bodies side m) ≡ states_of numbers bodies
  unfolding with_motion
  with_out bodies Static m other = refl
  with_out bodies (Dynamic n) m other = write_out numbers bodies n _ other

-- ---- rows

-- a filtered list with one element more
abbrev one_more : {X Y : Type 0} → (X → Y) → Bool → X → List Y → List Y
one_more f true x rest = f x ∷ rest
one_more f false x rest = rest

rows_cons : (numbers : List ℕ) (r : Row) (rows : List Row)
    → rows_among numbers (r ∷ rows)
    ≡ one_more (row_among numbers) (touches_one numbers r) r (rows_among numbers rows)
rows_cons numbers r rows = by (touches_one numbers r)
  where
    by : (e : Bool)
        → map (row_among numbers) (cond e (r ∷ filter (touches_one numbers) rows) (filter (touches_one numbers) rows))
        ≡ one_more (row_among numbers) e r (rows_among numbers rows)
    by true = refl
    by false = refl

module _ (numbers : List ℕ) (step : Step) (rising : IsRising 0 numbers) where
  -- the bodies of a row, as they are in the island
  state_seen : (bodies : List BodyState) (r : Row) → IsOwnSide numbers r.entry.first
      → IsOwnSide numbers r.entry.second
      → contact_state (states_of numbers bodies) (row_among numbers r) ≡ contact_state bodies r
  unfolding contact_state
  state_seen bodies r first second =
      rw (
        motion_in numbers bodies r.first_mass r.entry.first first,
        motion_in numbers bodies r.second_mass r.entry.second second,
      ) refl

  -- new motions of the bodies of a row
  with_seen : (bodies : List BodyState) (r : Row) (m : ContactState)
      → All (λ n. n < length bodies) numbers → IsOwnSide numbers r.entry.first
      → IsOwnSide numbers r.entry.second
      → bodies_with m (states_of numbers bodies) (row_among numbers r)
      ≡ states_of numbers (bodies_with m bodies r)
  with_seen bodies r m within first second =
      let half = with_motion bodies r.entry.first m.first in
      ap (λ bs. with_motion bs (side_among numbers r.entry.second) m.second)
      (with_in numbers bodies r.entry.first m.first rising within first)
      ∙ with_in numbers half r.entry.second m.second rising
      (subst (λ k. All (λ n. n < k) numbers) (sym (with_length bodies r.entry.first m.first)) within)
      second

  -- a row of the island
  bodies_seen : (bodies : List BodyState) (r : Row) → All (λ n. n < length bodies) numbers
      → IsOwnSide numbers r.entry.first → IsOwnSide numbers r.entry.second
      → bodies_after step (states_of numbers bodies) (row_among numbers r)
      ≡ states_of numbers (bodies_after step bodies r)
  unfolding bodies_after
  bodies_seen bodies r within first second =
      ap (λ m. bodies_with (step r.constraint m) (states_of numbers bodies) (row_among numbers r))
      (state_seen bodies r first second)
      ∙ with_seen bodies r (step r.constraint (contact_state bodies r)) within first second

  row_seen : (bodies : List BodyState) (r : Row) → IsOwnSide numbers r.entry.first
      → IsOwnSide numbers r.entry.second
      → row_after step (states_of numbers bodies) (row_among numbers r)
      ≡ row_among numbers (row_after step bodies r)
  unfolding row_after
  row_seen bodies r first second =
      ap (λ (m : ContactState). row_among numbers (record r { entry = record r.entry { impulses = (step r.constraint m).impulses } }))
      (state_seen bodies r first second)

  -- a row of other bodies
  bodies_left : (bodies : List BodyState) (r : Row) → touches_one numbers r ≡ false
      → states_of numbers (bodies_after step bodies r) ≡ states_of numbers bodies
  unfolding bodies_after
  bodies_left bodies r other =
      let sides = neither (is_among numbers r.entry.first) (is_among numbers r.entry.second) other in
      with_out numbers _ r.entry.second _ sides.1 ∙ with_out numbers bodies r.entry.first _ sides.0
    where
      neither : (a b : Bool) → (a || b) ≡ false → (a ≡ false) × (b ≡ false)
      neither true b h = absurd (true≢false h)
      neither false b h = (refl, h)

  -- a row touches after its step what it touched before
  touches_after : (bodies : List BodyState) (r : Row)
      → touches_one numbers (row_after step bodies r) ≡ touches_one numbers r
  unfolding row_after
  touches_after bodies r = refl

  -- a pass
  pass_seen : (bodies : List BodyState) (rows : List Row) → All (λ n. n < length bodies) numbers
      → All (IsOwnOrOther numbers) rows
      → pass step (states_of numbers bodies) (rows_among numbers rows)
      ≡ seen_from numbers (pass step bodies rows)
  unfolding pass
  pass_seen bodies [] within own = refl
  pass_seen bodies (r ∷ rows) within own =
      ap (pass step (states_of numbers bodies)) (rows_cons numbers r rows)
      ∙ by (touches_one numbers r) refl
      (pass_seen (bodies_after step bodies r) rows
      (subst (λ k. All (λ n. n < k) numbers) (sym (after_length step bodies r)) within)
      (All-tail (IsOwnOrOther numbers) r rows own))
      ∙ ap (λ rs. record { bodies = states_of numbers rest.bodies; rows = rs })
      (sym (rows_cons numbers (row_after step bodies r) rest.rows
      ∙ ap (λ e. one_more (row_among numbers) e (row_after step bodies r) (rows_among numbers rest.rows))
      (touches_after bodies r)))
    where
      rest : Batch
      rest = pass step (bodies_after step bodies r) rows

      by : (e : Bool) → touches_one numbers r ≡ e
          → pass step (states_of numbers (bodies_after step bodies r)) (rows_among numbers rows) ≡ seen_from numbers rest
          → pass step (states_of numbers bodies) (one_more (row_among numbers) e r (rows_among numbers rows))
          ≡ record {
            bodies = states_of numbers rest.bodies;
            rows = one_more (row_among numbers) e (row_after step bodies r) (rows_among numbers rest.rows);
          }
      by true e seen =
          let sides = All-head (IsOwnOrOther numbers) r rows own e in
          ap₂ (λ (b : Batch) (x : Row). record { bodies = b.bodies; rows = x ∷ b.rows })
          (ap (λ bs. pass step bs (rows_among numbers rows)) (bodies_seen bodies r within sides.0 sides.1) ∙ seen)
          (row_seen bodies r sides.0 sides.1)
      by false e seen =
          ap (λ bs. pass step bs (rows_among numbers rows)) (sym (bodies_left bodies r e)) ∙ seen

  -- several passes
  pub passes_seen : (n : ℕ) (b : Batch) → All (λ k. k < length b.bodies) numbers
      → All (IsOwnOrOther numbers) b.rows
      → passes n step (seen_from numbers b) ≡ seen_from numbers (passes n step b)
  unfolding passes
  passes_seen zero b within own = refl
  passes_seen (suc n) b within own =
      let before = passes n step b in
      ap (λ (x : Batch). pass step x.bodies x.rows) (passes_seen n b within own)
      ∙ pass_seen before.bodies before.rows
      (subst (λ k. All (λ i. i < k) numbers) (sym (passes_length n b)) within)
      (still (IsOwnOrOther numbers) b.rows before.rows (passes_rows step n b) own)
    where
      passes_length : (k : ℕ) (x : Batch) → length (passes k step x).bodies ≡ length x.bodies
      passes_length k x =
          sym (length-map (passes k step x).bodies at_rest)
          ∙ (ap length (passes_bodies step k x) ∙ length-map x.bodies at_rest)

-- ---- bodies

-- a phase of the awake bodies, of some bodies
each_seen : (numbers : List ℕ) (phase : BodyState → BodyState) (bodies : List BodyState)
    → each_awake phase (states_of numbers bodies) ≡ states_of numbers (each_awake phase bodies)
each_seen [] phase bodies = refl
each_seen (n ∷ numbers) phase bodies =
    ap₂ (λ x xs. x ∷ xs)
    (sym (get_or-map (λ (b : BodyState). if b.awake then phase b else b) bodies n no_state))
    (each_seen numbers phase bodies)

-- a body of a row, as the pre-step sees it
pre_step_in : (numbers : List ℕ) (s : Scene) (bodies : List BodyState) (number : ℕ) (side : Side)
    → IsOwnSide numbers side
    → pre_step_body s (states_of numbers bodies) number (side_among numbers side)
    ≡ pre_step_body s bodies number side
unfolding pre_step_body
pre_step_in numbers s bodies number Static own = refl
pre_step_in numbers s bodies number (Dynamic n) own = rw (read_in numbers bodies n own) refl

-- the pre-step of a row of the island
prepared_in : (numbers : List ℕ) (s : Scene) (bodies : List BodyState) (r : Row)
    → IsOwnSide numbers r.entry.first → IsOwnSide numbers r.entry.second
    → prepared_row s (states_of numbers bodies) (row_among numbers r)
    ≡ row_among numbers (prepared_row s bodies r)
unfolding prepared_row
prepared_in numbers s bodies r first second =
    rw (
      pre_step_in numbers s bodies r.entry.touch.a r.entry.first first,
      pre_step_in numbers s bodies r.entry.touch.b r.entry.second second,
    ) refl

-- the pre-step leaves the bodies that a row touches
touches_prepared : (numbers : List ℕ) (s : Scene) (bodies : List BodyState) (r : Row)
    → touches_one numbers (prepared_row s bodies r) ≡ touches_one numbers r
unfolding prepared_row
touches_prepared numbers s bodies r = refl

own_prepared : (numbers : List ℕ) (s : Scene) (bodies : List BodyState) (r : Row)
    → IsOwnOrOther numbers r → IsOwnOrOther numbers (prepared_row s bodies r)
unfolding prepared_row
own_prepared numbers s bodies r own = own

-- the pre-step of all rows
prepared_seen : (numbers : List ℕ) (s : Scene) (bodies : List BodyState) (rows : List Row)
    → All (IsOwnOrOther numbers) rows
    → map (prepared_row s (states_of numbers bodies)) (rows_among numbers rows)
    ≡ rows_among numbers (map (prepared_row s bodies) rows)
prepared_seen numbers s bodies [] own = refl
prepared_seen numbers s bodies (r ∷ rows) own =
    ap (map here) (rows_cons numbers r rows)
    ∙ by (touches_one numbers r) refl
    (prepared_seen numbers s bodies rows (All-tail (IsOwnOrOther numbers) r rows own))
    ∙ sym (rows_cons numbers (prepared_row s bodies r) (map (prepared_row s bodies) rows)
    ∙ ap (λ e. one_more (row_among numbers) e (prepared_row s bodies r) rest)
    (touches_prepared numbers s bodies r))
  where
    here : Row → Row
    here = prepared_row s (states_of numbers bodies)

    rest : List Row
    rest = rows_among numbers (map (prepared_row s bodies) rows)

    by : (e : Bool) → touches_one numbers r ≡ e → map here (rows_among numbers rows) ≡ rest
        → map here (one_more (row_among numbers) e r (rows_among numbers rows))
        ≡ one_more (row_among numbers) e (prepared_row s bodies r) rest
    by true e same =
        let sides = All-head (IsOwnOrOther numbers) r rows own e in
        ap₂ (λ x xs. x ∷ xs) (prepared_in numbers s bodies r sides.0 sides.1) same
    by false e same = same

-- the phases Gravity to Timers
pub solved_seen : (numbers : List ℕ) (s : Scene) (bodies : List BodyState) (rows : List Row)
    → IsRising 0 numbers → All (λ n. n < length bodies) numbers
    → All (IsOwnOrOther numbers) rows
    → solved_batch s (states_of numbers bodies) (rows_among numbers rows)
    ≡ seen_from numbers (solved_batch s bodies rows)
unfolding solved_batch
solved_seen numbers s bodies rows rising within own =
    ap (λ bs. finish (pass after_warm_start bs (map (prepared_row s bs) (rows_among numbers rows))))
    (each_seen numbers fall bodies)
    ∙ ap (λ rs. finish (pass after_warm_start (states_of numbers fallen) rs))
    (prepared_seen numbers s fallen rows own)
    ∙ ap finish (pass_seen numbers after_warm_start rising fallen prepared within_fallen own_then)
    ∙ ap moved (passes_seen numbers after_round rising ROUNDS warm within_warm own_warm)
    ∙ ap (λ bs. record { bodies = bs; rows = rows_among numbers after.rows })
    (each_seen numbers (λ b. after_timer (after_motion b)) after.bodies)
  where
    fall : BodyState → BodyState
    fall = after_gravity (gravity_per_tick s.gravity)

    moved : Batch → Batch
    moved b = record b { bodies = each_awake (λ x. after_timer (after_motion x)) b.bodies }

    finish : Batch → Batch
    finish b = moved (passes ROUNDS after_round b)

    fallen : List BodyState
    fallen = each_awake fall bodies

    prepared : List Row
    prepared = map (prepared_row s fallen) rows

    warm : Batch
    warm = pass after_warm_start fallen prepared

    after : Batch
    after = passes ROUNDS after_round warm

    within_fallen : All (λ n. n < length fallen) numbers
    within_fallen =
        subst (λ k. All (λ n. n < k) numbers)
        (sym (length-map bodies (λ (b : BodyState). if b.awake then fall b else b))) within

    own_then : All (IsOwnOrOther numbers) prepared
    own_then =
        All-map (IsOwnOrOther numbers) (prepared_row s fallen) rows
        (All-weaker (IsOwnOrOther numbers) (λ r. IsOwnOrOther numbers (prepared_row s fallen r))
        (λ r h. own_prepared numbers s fallen r h) rows own)

    within_warm : All (λ n. n < length warm.bodies) numbers
    within_warm =
        subst (λ k. All (λ n. n < k) numbers)
        (sym (bodies_length after_warm_start fallen prepared)) within_fallen

    own_warm : All (IsOwnOrOther numbers) warm.rows
    own_warm =
        still (IsOwnOrOther numbers) prepared warm.rows
        (pass_rows after_warm_start fallen prepared) own_then
