-- Batches side by side are solved as each of them alone.
use Rattle.std.proofs.Common.{◌≡◌, ◌∙◌, ℕ, zero, suc, ◌+◌, ◌-◌, ◌<◌, ◌≤◌, List, [], ◌∷◌, ◌++◌, append_assoc, drop, get_or, length, map, set, refl, sym, ap, ap₂, subst, take, arith}
use Rattle.std.proofs.lemmas.List.{drop-append-le, drop-set, drop_all, drop_more, get_or-append-add, get_or_append_left, length-append, length-map, map-append, set-append_left, set-append_right, take-append-drop, take-append-le, take-set, take_all}
use Rattle.std.proofs.lemmas.List.Elements.{All-append, All-head, All-map, All-nil, All-tail, All-weaker}
use Rattle.std.proofs.lemmas.List.Concat.{flat_map-cons}
use Rattle.std.proofs.lemmas.List.Sums.{sum_by-cons, sum_by-set}
use Rattle.std.proofs.lemmas.Simd.{map-map}
use Rattle.std.specs.List.{flat_map, sum_by}
use Rattle.std.specs.Prelude.{All}
use Rattle.pf_shapes.specs.Body.{BodyState, no_state}
use Rattle.pf_shapes.specs.Scene.{Scene}
use Rattle.pf_rows.specs.declared.row.Side.{Side}
use Rattle.pf_rows.specs.declared.row.Side.TheVariants.{Static, Dynamic}
use Rattle.pf_rows.specs.Row.{AreApart, InverseMass, IsEntryOf, IsSide, Row}
use Rattle.pf_solver.specs.declared.velocities.TheConstants.{ROUNDS}
use Rattle.pf_solver.specs.Beside.{IsBatch, beside, shifted_row, shifted_side, side_by_side, velocities_of}
use Rattle.pf_solver.specs.Bodies.{after_gravity, each_awake, gravity_per_tick}
use Rattle.pf_solver.specs.Impulse.{ContactState, Motion, after_round, after_warm_start}
use Rattle.pf_solver.specs.Solve.{prepared_row, solved_velocities}
use Rattle.pf_solver.specs.Velocities.{Batch, Step, bodies_after, bodies_with, body_with, contact_state, motion_at, motion_of, pass, passes, row_after, with_motion}
use Rattle.pf_solver.proofs.Passes.{after_length, after_pass, bodies_length, passes_nothing, with_length}

-- ---- one body

-- a write behind the front
set_behind : {X : Type 0} (xs ys : List X) (place : ℕ) (y : X) → set (xs ++ ys) (length xs + place) y ≡ xs ++ set ys place y
set_behind xs ys place y =
    let first : length xs ≤ length xs + place = omega arith in
    let back : length xs + place - length xs ≡ place = omega arith in
    set-append_right xs ys (length xs) (length xs + place) y refl first ∙ ap (λ k. xs ++ set ys k y) back

module _ (xs ys : List BodyState) where
  -- the motion of a body in front
  motion_in_front : (mass : InverseMass) (side : Side) → IsSide (length xs) side
      → motion_at (xs ++ ys) mass side ≡ motion_at xs mass side
  unfolding motion_at
  motion_in_front mass Static within = refl
  motion_in_front mass (Dynamic place) within = ap (motion_of mass) (get_or_append_left xs ys no_state place within)

  -- the motion of a body behind
  motion_behind : (mass : InverseMass) (side : Side)
      → motion_at (xs ++ ys) mass (shifted_side (length xs) side) ≡ motion_at ys mass side
  unfolding motion_at
  motion_behind mass Static = refl
  motion_behind mass (Dynamic place) = ap (motion_of mass) (get_or-append-add xs ys place no_state)

  -- a motion of a body in front leaves the bodies behind
  with_in_front : (side : Side) (m : Motion) → IsSide (length xs) side
      → with_motion (xs ++ ys) side m ≡ with_motion xs side m ++ ys
  unfolding with_motion
  with_in_front Static m within = refl
  with_in_front (Dynamic place) m within =
      ap (λ b. set (xs ++ ys) place (body_with m b)) (get_or_append_left xs ys no_state place within)
      ∙ set-append_left xs ys place (body_with m (get_or xs place no_state)) within

  -- a motion of a body behind leaves the bodies in front
  with_behind : (side : Side) (m : Motion)
      → with_motion (xs ++ ys) (shifted_side (length xs) side) m ≡ xs ++ with_motion ys side m
  unfolding with_motion
  with_behind Static m = refl
  with_behind (Dynamic place) m =
      ap (λ b. set (xs ++ ys) (length xs + place) (body_with m b)) (get_or-append-add xs ys place no_state)
      ∙ set_behind xs ys place (body_with m (get_or ys place no_state))

-- ---- one row

module _ (xs ys : List BodyState) (r : Row) where
  -- what a row in front reads
  state_in_front : IsEntryOf (length xs) r.entry → contact_state (xs ++ ys) r ≡ contact_state xs r
  unfolding contact_state
  state_in_front fit =
      ap₂ (λ (a b : Motion). record { first = a; second = b; impulses = r.entry.impulses })
      (motion_in_front xs ys r.first_mass r.entry.first fit.first)
      (motion_in_front xs ys r.second_mass r.entry.second fit.second)

  -- what a row behind reads
  state_behind : contact_state (xs ++ ys) (shifted_row (length xs) r) ≡ contact_state ys r
  unfolding contact_state
  state_behind =
      ap₂ (λ (a b : Motion). record { first = a; second = b; impulses = r.entry.impulses })
      (motion_behind xs ys r.first_mass r.entry.first)
      (motion_behind xs ys r.second_mass r.entry.second)

  -- what a row in front writes
  bodies_with_in_front : (m : ContactState) → IsEntryOf (length xs) r.entry
      → bodies_with m (xs ++ ys) r ≡ bodies_with m xs r ++ ys
  bodies_with_in_front m fit =
      let half = with_motion xs r.entry.first m.first in
      ap (λ bs. with_motion bs r.entry.second m.second) (with_in_front xs ys r.entry.first m.first fit.first)
      ∙ with_in_front half ys r.entry.second m.second
      (subst (λ n. IsSide n r.entry.second) (sym (with_length xs r.entry.first m.first)) fit.second)

  -- what a row behind writes
  bodies_with_behind : (m : ContactState) → bodies_with m (xs ++ ys) (shifted_row (length xs) r) ≡ xs ++ bodies_with m ys r
  bodies_with_behind m =
      ap (λ bs. with_motion bs (shifted_side (length xs) r.entry.second) m.second) (with_behind xs ys r.entry.first m.first)
      ∙ with_behind xs (with_motion ys r.entry.first m.first) r.entry.second m.second

  module _ (step : Step) where
    -- the bodies after a row in front
    after_in_front : IsEntryOf (length xs) r.entry → bodies_after step (xs ++ ys) r ≡ bodies_after step xs r ++ ys
    unfolding bodies_after
    after_in_front fit =
        ap (λ s. bodies_with (step r.constraint s) (xs ++ ys) r) (state_in_front fit)
        ∙ bodies_with_in_front (step r.constraint (contact_state xs r)) fit

    -- the bodies after a row behind
    after_behind : bodies_after step (xs ++ ys) (shifted_row (length xs) r) ≡ xs ++ bodies_after step ys r
    unfolding bodies_after
    after_behind =
        ap (λ s. bodies_with (step r.constraint s) (xs ++ ys) (shifted_row (length xs) r)) state_behind
        ∙ bodies_with_behind (step r.constraint (contact_state ys r))

    -- a row in front is solved as alone
    row_in_front : IsEntryOf (length xs) r.entry → row_after step (xs ++ ys) r ≡ row_after step xs r
    unfolding row_after
    row_in_front fit =
        ap (λ (s : ContactState). record r { entry = record r.entry { impulses = (step r.constraint s).impulses } })
        (state_in_front fit)

    -- a row behind is solved as alone
    row_behind : row_after step (xs ++ ys) (shifted_row (length xs) r) ≡ shifted_row (length xs) (row_after step ys r)
    unfolding row_after
    row_behind =
        ap (λ (s : ContactState). shifted_row (length xs) (record r { entry = record r.entry { impulses = (step r.constraint s).impulses } }))
        state_behind

-- ---- a pass

module _ (step : Step) where
  -- without rows a pass changes nothing
  pass_nothing : (bodies : List BodyState) → pass step bodies [] ≡ record { bodies = bodies; rows = [] }
  unfolding pass
  pass_nothing bodies = refl

  -- a pass along the rows in front
  pass_in_front : (xs ys : List BodyState) (rows : List Row) → All (λ r. IsEntryOf (length xs) r.entry) rows
      → pass step (xs ++ ys) rows
      ≡ record { bodies = (pass step xs rows).bodies ++ ys; rows = (pass step xs rows).rows }
  unfolding pass
  pass_in_front xs ys [] fit = refl
  pass_in_front xs ys (r ∷ rows) fit =
      let here = All-head (λ x. IsEntryOf (length xs) x.entry) r rows fit in
      let next = bodies_after step xs r in
      let fit_next =
      subst (λ n. All (λ x. IsEntryOf n x.entry) rows) (sym (after_length step xs r))
      (All-tail (λ x. IsEntryOf (length xs) x.entry) r rows fit) in
      ap₂ (λ (b : Batch) (x : Row). record { bodies = b.bodies; rows = x ∷ b.rows })
      (ap (λ bs. pass step bs rows) (after_in_front xs ys r step here) ∙ pass_in_front next ys rows fit_next)
      (row_in_front xs ys r step here)

  -- a pass along the rows behind
  pass_behind : (xs ys : List BodyState) (rows : List Row)
      → pass step (xs ++ ys) (map (shifted_row (length xs)) rows) ≡ record {
        bodies = xs ++ (pass step ys rows).bodies;
        rows = map (shifted_row (length xs)) (pass step ys rows).rows;
      }
  unfolding pass
  pass_behind xs ys [] = refl
  pass_behind xs ys (r ∷ rows) =
      ap₂ (λ (b : Batch) (x : Row). record { bodies = b.bodies; rows = x ∷ b.rows })
      (ap (λ bs. pass step bs (map (shifted_row (length xs)) rows)) (after_behind xs ys r step)
      ∙ pass_behind xs (bodies_after step ys r) rows)
      (row_behind xs ys r step)

  -- a pass along some rows and then others
  pass_both : (bodies : List BodyState) (rows more : List Row)
      → pass step bodies (rows ++ more) ≡ record {
        bodies = (pass step (pass step bodies rows).bodies more).bodies;
        rows = (pass step bodies rows).rows ++ (pass step (pass step bodies rows).bodies more).rows;
      }
  unfolding pass
  pass_both bodies [] more = refl
  pass_both bodies (r ∷ rows) more =
      ap (λ (b : Batch). record { bodies = b.bodies; rows = row_after step bodies r ∷ b.rows })
      (pass_both (bodies_after step bodies r) rows more)

  -- a pass along two batches is a pass along each; only the rows in front need to name bodies of
  -- their batch
  pub pass_beside : (a b : Batch) → IsBatch a
      → pass step (beside a b).bodies (beside a b).rows
      ≡ beside (pass step a.bodies a.rows) (pass step b.bodies b.rows)
  pass_beside a b fit =
      let first = pass step a.bodies a.rows in
      let more = map (shifted_row (length a.bodies)) b.rows in
      pass_both (a.bodies ++ b.bodies) a.rows more
      ∙ ap (λ (x : Batch). record { bodies = (pass step x.bodies more).bodies; rows = x.rows ++ (pass step x.bodies more).rows })
      (pass_in_front a.bodies b.bodies a.rows fit)
      ∙ ap (λ n. record {
        bodies = (pass step (first.bodies ++ b.bodies) (map (shifted_row n) b.rows)).bodies;
        rows = first.rows ++ (pass step (first.bodies ++ b.bodies) (map (shifted_row n) b.rows)).rows;
      })
      (sym (bodies_length step a.bodies a.rows))
      ∙ ap (λ (x : Batch). record { bodies = x.bodies; rows = first.rows ++ x.rows })
      (pass_behind first.bodies b.bodies b.rows)

  -- after a pass the rows name bodies of the batch
  pub batch_passed : (b : Batch) → IsBatch b → IsBatch (pass step b.bodies b.rows)
  batch_passed b fit = after_pass step b.bodies b.rows fit

-- after so many passes the rows name bodies of the batch
pub batch_after_passes : (n : ℕ) (step : Step) (b : Batch) → IsBatch b → IsBatch (passes n step b)
unfolding passes
batch_after_passes zero step b fit = fit
batch_after_passes (suc n) step b fit = batch_passed step (passes n step b) (batch_after_passes n step b fit)

-- so many passes along two batches are passes along each
pub passes_beside : (n : ℕ) (step : Step) (a b : Batch) → IsBatch a
    → passes n step (beside a b) ≡ beside (passes n step a) (passes n step b)
unfolding passes
passes_beside zero step a b fit = refl
passes_beside (suc n) step a b fit =
    ap (λ (x : Batch). pass step x.bodies x.rows) (passes_beside n step a b fit)
    ∙ pass_beside step (passes n step a) (passes n step b) (batch_after_passes n step a fit)

-- ---- several batches

-- a pass along several batches is a pass along each
pub pass_side_by_side : (step : Step) (batches : List Batch) → All IsBatch batches
    → pass step (side_by_side batches).bodies (side_by_side batches).rows
    ≡ side_by_side (map (λ (b : Batch). pass step b.bodies b.rows) batches)
pass_side_by_side step [] fit = pass_nothing step []
pass_side_by_side step (b ∷ batches) fit =
    pass_beside step b (side_by_side batches) (All-head IsBatch b batches fit)
    ∙ ap (beside (pass step b.bodies b.rows)) (pass_side_by_side step batches (All-tail IsBatch b batches fit))

-- so many passes along several batches are passes along each
pub passes_side_by_side : (n : ℕ) (step : Step) (batches : List Batch) → All IsBatch batches
    → passes n step (side_by_side batches) ≡ side_by_side (map (passes n step) batches)
passes_side_by_side n step [] fit = passes_nothing n step []
passes_side_by_side n step (b ∷ batches) fit =
    passes_beside n step b (side_by_side batches) (All-head IsBatch b batches fit)
    ∙ ap (beside (passes n step b)) (passes_side_by_side n step batches (All-tail IsBatch b batches fit))

-- what a map keeps of each batch
all_kept : (f : Batch → Batch) → ((b : Batch) → IsBatch b → IsBatch (f b)) → (batches : List Batch) → All IsBatch batches
    → All IsBatch (map f batches)
all_kept f kept batches fit = All-map IsBatch f batches (All-weaker IsBatch (λ b. IsBatch (f b)) kept batches fit)

-- each batch after a pass of its own is a batch
pub batches_passed : (step : Step) (batches : List Batch) → All IsBatch batches
    → All IsBatch (map (λ (b : Batch). pass step b.bodies b.rows) batches)
batches_passed step batches fit = all_kept (λ (b : Batch). pass step b.bodies b.rows) (batch_passed step) batches fit

-- each batch after so many passes of its own is a batch
pub batches_after_passes : (n : ℕ) (step : Step) (batches : List Batch) → All IsBatch batches
    → All IsBatch (map (passes n step) batches)
batches_after_passes n step batches fit = all_kept (passes n step) (batch_after_passes n step) batches fit

-- the velocity phase of a batch leaves a batch
pub batch_of_velocities : (b : Batch) → IsBatch b → IsBatch (velocities_of b)
batch_of_velocities b fit =
    batch_after_passes ROUNDS after_round (pass after_warm_start b.bodies b.rows) (batch_passed after_warm_start b fit)

-- the velocity phase of several batches is that of each
pub velocities_side_by_side : (batches : List Batch) → All IsBatch batches
    → velocities_of (side_by_side batches) ≡ side_by_side (map velocities_of batches)
velocities_side_by_side batches fit =
    let warm = λ (b : Batch). pass after_warm_start b.bodies b.rows in
    ap (passes ROUNDS after_round) (pass_side_by_side after_warm_start batches fit)
    ∙ passes_side_by_side ROUNDS after_round (map warm batches) (batches_passed after_warm_start batches fit)
    ∙ ap side_by_side (map-map (passes ROUNDS after_round) warm batches)

-- a tick solves the velocities of its bodies after gravity, and of its rows after the pre-step
pub velocities_of_tick : (s : Scene) (bodies : List BodyState) (rows : List Row)
    → let fallen = each_awake (after_gravity (gravity_per_tick s.gravity)) bodies in
    solved_velocities s bodies rows ≡ velocities_of (record { bodies = fallen; rows = map (prepared_row s fallen) rows })
velocities_of_tick s bodies rows = refl

-- ---- the rows of batches side by side

-- a side of the bodies in front is one of all bodies
side_in_front : (m n : ℕ) (side : Side) → IsSide m side → IsSide (m + n) side
side_in_front m n Static within = tt
side_in_front m n (Dynamic place) within = omega arith

-- a side of the bodies behind is one of all bodies
side_behind : (m n : ℕ) (side : Side) → IsSide n side → IsSide (m + n) (shifted_side m side)
side_behind m n Static within = tt
side_behind m n (Dynamic place) within = omega arith

-- different places are different behind others
apart_behind : (m : ℕ) (a b : Side) → AreApart a b → AreApart (shifted_side m a) (shifted_side m b)
apart_behind m Static Static apart = tt
apart_behind m Static (Dynamic j) apart = tt
apart_behind m (Dynamic i) Static apart = tt
apart_behind m (Dynamic i) (Dynamic j) apart = λ same. apart (omega arith)

-- a row in front names bodies of the whole list
row_of_front : (m n : ℕ) (r : Row) → IsEntryOf m r.entry → IsEntryOf (m + n) r.entry
row_of_front m n r fit = record {
  first = side_in_front m n r.entry.first fit.first;
  second = side_in_front m n r.entry.second fit.second;
  apart = fit.apart;
}

-- a row behind names bodies of the whole list
row_of_back : (m n : ℕ) (r : Row) → IsEntryOf n r.entry → IsEntryOf (m + n) (shifted_row m r).entry
row_of_back m n r fit = record {
  first = side_behind m n r.entry.first fit.first;
  second = side_behind m n r.entry.second fit.second;
  apart = apart_behind m r.entry.first r.entry.second fit.apart;
}

-- two batches side by side are a batch
pub batch_beside : (a b : Batch) → IsBatch a → IsBatch b → IsBatch (beside a b)
batch_beside a b fit_a fit_b =
    let m = length a.bodies in
    let n = length b.bodies in
    let P : ℕ → Row → Type 0 = λ k r. IsEntryOf k r.entry in
    let more = map (shifted_row m) b.rows in
    subst (λ k. All (P k) (a.rows ++ more)) (sym (length-append a.bodies b.bodies))
    (All-append (P (m + n)) a.rows more
    (All-weaker (P m) (P (m + n)) (row_of_front m n) a.rows fit_a)
    (All-map (P (m + n)) (shifted_row m) b.rows
    (All-weaker (P n) (λ r. P (m + n) (shifted_row m r)) (row_of_back m n) b.rows fit_b)))

-- several batches side by side are a batch
pub batch_side_by_side : (batches : List Batch) → All IsBatch batches → IsBatch (side_by_side batches)
batch_side_by_side [] fit = All-nil (λ (r : Row). IsEntryOf 0 r.entry)
batch_side_by_side (b ∷ batches) fit =
    batch_beside b (side_by_side batches) (All-head IsBatch b batches fit)
    (batch_side_by_side batches (All-tail IsBatch b batches fit))

-- ---- how many

-- the bodies side by side are as many as those of all batches
pub bodies_side_by_side : (batches : List Batch)
    → length (side_by_side batches).bodies ≡ sum_by (λ (b : Batch). length b.bodies) batches
bodies_side_by_side [] = refl
bodies_side_by_side (b ∷ batches) =
    length-append b.bodies (side_by_side batches).bodies
    ∙ ap (λ n. length b.bodies + n) (bodies_side_by_side batches)
    ∙ sym (sum_by-cons (λ (x : Batch). length x.bodies) b batches)

-- the rows side by side are as many as those of all batches
pub rows_side_by_side : (batches : List Batch)
    → length (side_by_side batches).rows ≡ sum_by (λ (b : Batch). length b.rows) batches
rows_side_by_side [] = refl
rows_side_by_side (b ∷ batches) =
    let rest = side_by_side batches in
    length-append b.rows (map (shifted_row (length b.bodies)) rest.rows)
    ∙ ap (λ n. length b.rows + n) (length-map rest.rows (shifted_row (length b.bodies)) ∙ rows_side_by_side batches)
    ∙ sym (sum_by-cons (λ (x : Batch). length x.rows) b batches)

-- the bodies side by side are those of the first batch, and then those of each next one
pub bodies_one_after_another : (batches : List Batch)
    → (side_by_side batches).bodies ≡ flat_map (λ (b : Batch). b.bodies) batches
bodies_one_after_another [] = refl
bodies_one_after_another (b ∷ batches) =
    ap (λ rest. b.bodies ++ rest) (bodies_one_after_another batches)
    ∙ sym (flat_map-cons (λ (x : Batch). x.bodies) b batches)

-- ---- parts of a list of batches

-- behind no others a side is as it was
side_behind_none : (side : Side) → shifted_side 0 side ≡ side
side_behind_none Static = refl
side_behind_none (Dynamic place) = let same : 0 + place ≡ place = omega arith in ap (λ k. Dynamic k) same

-- behind some others and these behind others more
side_behind_both : (m n : ℕ) (side : Side) → shifted_side (m + n) side ≡ shifted_side m (shifted_side n side)
side_behind_both m n Static = refl
side_behind_both m n (Dynamic place) =
    let same : m + n + place ≡ m + (n + place) = omega arith in ap (λ k. Dynamic k) same

-- a row with these sides
with_sides : Row → Side → Side → Row
with_sides r a b = record r { entry = record r.entry { first = a; second = b } }

-- behind no others rows are as they were
rows_behind_none : (rows : List Row) → map (shifted_row 0) rows ≡ rows
unfolding with_sides
rows_behind_none [] = refl
rows_behind_none (r ∷ rows) =
    ap₂ (λ (x : Row) xs. x ∷ xs)
    (ap₂ (with_sides r) (side_behind_none r.entry.first) (side_behind_none r.entry.second))
    (rows_behind_none rows)

-- rows behind some others and these behind others more
rows_behind_both : (m n : ℕ) (rows : List Row) → map (shifted_row (m + n)) rows ≡ map (shifted_row m) (map (shifted_row n) rows)
unfolding with_sides
rows_behind_both m n [] = refl
rows_behind_both m n (r ∷ rows) =
    ap₂ (λ (x : Row) xs. x ∷ xs)
    (ap₂ (with_sides r) (side_behind_both m n r.entry.first) (side_behind_both m n r.entry.second))
    (rows_behind_both m n rows)

-- three batches side by side, however they are taken together
pub three_beside : (a b c : Batch) → beside (beside a b) c ≡ beside a (beside b c)
three_beside a b c =
    let m = length a.bodies in
    let n = length b.bodies in
    let middle = map (shifted_row m) b.rows in
    ap₂ (λ bodies rows. record { bodies = bodies; rows = rows })
    (append_assoc a.bodies b.bodies c.bodies)
    (ap (λ k. (a.rows ++ middle) ++ map (shifted_row k) c.rows) (length-append a.bodies b.bodies)
    ∙ ap (λ rows. (a.rows ++ middle) ++ rows) (rows_behind_both m n c.rows)
    ∙ append_assoc a.rows middle (map (shifted_row m) (map (shifted_row n) c.rows))
    ∙ ap (λ rows. a.rows ++ rows) (sym (map-append (shifted_row m) b.rows (map (shifted_row n) c.rows))))

-- some batches and then others side by side are two batches side by side
pub beside_of_lists : (front rest : List Batch)
    → side_by_side (front ++ rest) ≡ beside (side_by_side front) (side_by_side rest)
beside_of_lists [] rest =
    ap (λ rows. record { bodies = (side_by_side rest).bodies; rows = rows }) (sym (rows_behind_none (side_by_side rest).rows))
beside_of_lists (b ∷ front) rest =
    ap (beside b) (beside_of_lists front rest) ∙ sym (three_beside b (side_by_side front) (side_by_side rest))

-- with another batch at a place, the batches before and behind it stay
pub side_by_side_with : (batches : List Batch) (k : ℕ) (b : Batch) → k < length batches
    → side_by_side (set batches k b) ≡ beside (side_by_side (take k batches)) (beside b (side_by_side (drop (k + 1) batches)))
side_by_side_with batches k b within =
    ap side_by_side
    (sym (take-append-drop k (set batches k b))
    ∙ ap₂ (λ front rest. front ++ rest) (take-set batches k b) (drop-set batches k b within))
    ∙ beside_of_lists (take k batches) (b ∷ drop (k + 1) batches)

-- with another batch of as many bodies at a place, the bodies stay as many
pub bodies_with_another : (batches : List Batch) (k : ℕ) (b d : Batch) → k < length batches
    → length b.bodies ≡ length (get_or batches k d).bodies
    → length (side_by_side (set batches k b)).bodies ≡ length (side_by_side batches).bodies
bodies_with_another batches k b d within same =
    let before = bodies_side_by_side batches in
    let after = bodies_side_by_side (set batches k b) in
    let change = sum_by-set (λ (x : Batch). length x.bodies) batches k b d within in
    omega (arith, before, after, change, same)

-- with another batch of as many rows at a place, the rows stay as many
pub rows_with_another : (batches : List Batch) (k : ℕ) (b d : Batch) → k < length batches
    → length b.rows ≡ length (get_or batches k d).rows
    → length (side_by_side (set batches k b)).rows ≡ length (side_by_side batches).rows
rows_with_another batches k b d within same =
    let before = rows_side_by_side batches in
    let after = rows_side_by_side (set batches k b) in
    let change = sum_by-set (λ (x : Batch). length x.rows) batches k b d within in
    omega (arith, before, after, change, same)

-- the batch at a place, with the batches before and behind it
pub side_by_side_around : (batches : List Batch) (k : ℕ) (d : Batch) → k < length batches
    → side_by_side batches
    ≡ beside (side_by_side (take k batches)) (beside (get_or batches k d) (side_by_side (drop (k + 1) batches)))
side_by_side_around batches k d within =
    ap side_by_side
    (sym (take-append-drop k batches) ∙ ap (λ rest. take k batches ++ rest) (drop_more batches k d within))
    ∙ beside_of_lists (take k batches) (get_or batches k d ∷ drop (k + 1) batches)

-- what stands behind so many elements, cut out of a list
cut_out : {X : Type 0} (front own rest : List X) (n m : ℕ) → length front ≡ n → length own ≡ m
    → take m (drop n (front ++ (own ++ rest))) ≡ own
cut_out front own rest n m before long =
    let all_front : length front ≤ n = omega arith in
    let within : n ≤ length front = omega arith in
    let all_own : length own ≤ m = omega arith in
    let fits : m ≤ length own = omega arith in
    ap (take m)
    (drop-append-le n front (own ++ rest) within
    ∙ ap (λ xs. xs ++ (own ++ rest)) (drop_all n front all_front))
    ∙ take-append-le m own rest fits ∙ take_all m own all_own

module _ (batches : List Batch) (k : ℕ) (d : Batch) (within : k < length batches) where
  -- the bodies of a batch stand behind those of the batches before it
  pub bodies_of_batch : take (length (get_or batches k d).bodies)
      (drop (sum_by (λ (b : Batch). length b.bodies) (take k batches)) (side_by_side batches).bodies)
      ≡ (get_or batches k d).bodies
  bodies_of_batch =
      let before = side_by_side (take k batches) in
      let own = get_or batches k d in
      let rest = side_by_side (drop (k + 1) batches) in
      let n = sum_by (λ (b : Batch). length b.bodies) (take k batches) in
      ap (λ (b : Batch). take (length own.bodies) (drop n b.bodies)) (side_by_side_around batches k d within)
      ∙ cut_out before.bodies own.bodies rest.bodies n (length own.bodies) (bodies_side_by_side (take k batches)) refl

  -- the rows of a batch stand behind those of the batches before it, and name bodies behind theirs
  pub rows_of_batch : take (length (get_or batches k d).rows)
      (drop (sum_by (λ (b : Batch). length b.rows) (take k batches)) (side_by_side batches).rows)
      ≡ map (shifted_row (sum_by (λ (b : Batch). length b.bodies) (take k batches))) (get_or batches k d).rows
  rows_of_batch =
      let before = side_by_side (take k batches) in
      let own = get_or batches k d in
      let rest = side_by_side (drop (k + 1) batches) in
      let n = sum_by (λ (b : Batch). length b.rows) (take k batches) in
      let shift = shifted_row (length before.bodies) in
      let behind = map shift (map (shifted_row (length own.bodies)) rest.rows) in
      ap (λ (b : Batch). take (length own.rows) (drop n b.rows)) (side_by_side_around batches k d within)
      ∙ ap (λ rows. take (length own.rows) (drop n (before.rows ++ rows)))
      (map-append shift own.rows (map (shifted_row (length own.bodies)) rest.rows))
      ∙ cut_out before.rows (map shift own.rows) behind n (length own.rows)
      (rows_side_by_side (take k batches)) (length-map own.rows shift)
      ∙ ap (λ m. map (shifted_row m) own.rows) (bodies_side_by_side (take k batches))
