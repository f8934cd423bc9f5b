-- What a group goes through alone in a tick is what its bodies go through in the tick.
use Rattle.std.proofs.Common.{◌≡◌, ◌∙◌, ℕ, suc, ◌+◌, ◌<◌, ◌==◌, Bool, true, false, cond, List, [], ◌∷◌, length, filter, map, option_map, refl, sym, ap, ap₂, arith, get_or, if◌then◌else◌}
use Rattle.std.proofs.lemmas.Bool.{eqb-true}
use Rattle.std.proofs.lemmas.List.Elements.{All-filter}
use Rattle.std.proofs.lemmas.Option.{get_or_from_slice_get, slice_get-get_or, slice_get-map}
use Rattle.std.proofs.lemmas.Simd.{map-map}
use Rattle.std.specs.List.{list_all, range_with_len, zip}
use Rattle.std.specs.Prelude.{All, ◌&&◌, ◌||◌, not, slice_index_or, ℤ}
use Rattle.pf_rot.specs.Vector.{V2}
use Rattle.pf_shapes.specs.Body.{BodyState, no_state}
use Rattle.pf_shapes.specs.Scene.{Scene}
use Rattle.pf_commands.specs.declared.payload.Payload.{Payload}
use Rattle.pf_islands.specs.Sleep.{at_sleep, is_active, is_resting, bodies_after_sleep, woken_bodies, island_after_sleep}
use Rattle.pf_islands.proofs.ActiveRows.{map_where}
use Rattle.pf_cache.proofs.ChosenNumbers.{chosen_pass, range_within}
use Rattle.pf_islands.proofs.Starting.{groups_long}
use Rattle.pf_solver.specs.declared.bodies.TheConstants.{STILL_TICKS}
use Rattle.pf_solver.specs.Bodies.{after_motion, after_timer}
use Rattle.pf_solver.specs.Solve.{solved_batch}
use Rattle.pf_solver.specs.Velocities.{Batch}
use Rattle.pf_islands.specs.Island.{states_of, rows_among, group_members}
use Rattle.pf_solver.proofs.Solved.{moved_on, solved_body, solved_length}
use Rattle.pf_step.specs.Commands.{after_commands}
use Rattle.pf_step.specs.Activity.{batch_of_tick, labels_of_tick}
use Rattle.pf_step.specs.Step.{step, touches_of_scene}
use Rattle.pf_step.specs.World.{World}
use Rattle.pf_step.proofs.Apart.{groups_alone}
use Rattle.pf_step.proofs.Commanding.{commands_length}
use Rattle.pf_islands.proofs.Elements.{zip_at}
use Rattle.pf_step.proofs.Lengths.{woken_length}

-- ---- members of a group

module _ (labels : List ℕ) (bodies : List BodyState) (paired : length labels ≡ length bodies) (label : ℕ) where
  -- the body of a number is in the group
  abbrev IsMember : ℕ → Type 0
  IsMember i = (i < length labels) × ((slice_index_or labels i 0 == label) ≡ true)

  pub members_are : All IsMember (group_members labels label)
  members_are =
      let within =
      All-filter (λ i. slice_index_or labels i 0 == label) (λ i. i < length labels) (range_with_len 0 (length labels))
      (range_within 0 (length labels) (length labels) (omega arith)) in
      let chosen = chosen_pass (λ i. slice_index_or labels i 0 == label) (range_with_len 0 (length labels)) in
      λ i d inside. (within i d inside, chosen i d inside)

  -- what a function of labels and bodies makes of the body of a number
  named_body : (f : ℕ × BodyState → BodyState) (i : ℕ) → IsMember i
      → slice_index_or (map f (zip labels bodies)) i no_state ≡ f (label, slice_index_or bodies i no_state)
  named_body f i is =
      let first = slice_get-get_or labels i 0 is.0 in
      let second = slice_get-get_or bodies i no_state (omega (arith, is.0, paired)) in
      get_or_from_slice_get (map f (zip labels bodies)) i (f (slice_index_or labels i 0, slice_index_or bodies i no_state)) no_state
      (slice_get-map f (zip labels bodies) i
      ∙ ap (option_map f) (zip_at labels bodies i (slice_index_or labels i 0) (slice_index_or bodies i no_state) first second))
      ∙ ap (λ n. f (n, slice_index_or bodies i no_state)) (eqb-true (slice_index_or labels i 0) label is.1)

-- ---- Sleep

-- a group rests where each of its members has a full timer
resting_from : (full label : ℕ) (p : ℕ → Bool) (f : ℕ → BodyState) (k : ℕ) (labels : List ℕ) (bodies : List BodyState)
    → length labels ≡ length bodies
    → ((i : ℕ) → i < length labels → p (k + i) ≡ (slice_index_or labels i 0 == label))
    → ((i : ℕ) → i < length labels → f (k + i) ≡ slice_index_or bodies i no_state)
    → list_all (λ (m : ℕ × BodyState). not (m.0 == label) || (m.1.timer == full)) (zip labels bodies)
    ≡ list_all (λ (b : BodyState). b.timer == full) (map f (filter p (range_with_len k (length labels))))
resting_from full label p f k [] bodies paired chosen state = refl
resting_from full label p f k (n ∷ labels) [] paired chosen state = absurd (omega (arith, paired))
resting_from full label p f k (n ∷ labels) (b ∷ bodies) paired chosen state =
    by (n == label) (p k) (ap p here ∙ chosen 0 (omega arith))
    (resting_from full label p f (k + 1) labels bodies (omega (arith, paired))
    (λ i within. ap p (next i) ∙ chosen (i + 1) (omega (arith, within)) ∙ ap (λ j. slice_index_or (n ∷ labels) j 0 == label) (more i))
    (λ i within. ap f (next i) ∙ state (i + 1) (omega (arith, within)) ∙ ap (λ j. slice_index_or (b ∷ bodies) j no_state) (more i)))
  where
    here : k ≡ k + 0
    here = omega arith

    next : (i : ℕ) → k + 1 + i ≡ k + (i + 1)
    next i = omega arith

    more : (i : ℕ) → i + 1 ≡ suc i
    more i = omega arith

    rest : List ℕ
    rest = filter p (range_with_len (k + 1) (length labels))

    full_here : (f k).timer ≡ b.timer
    full_here = ap (λ (x : BodyState). x.timer) (ap f here ∙ state 0 (omega arith))

    by : (e c : Bool) → c ≡ e
        → list_all (λ (m : ℕ × BodyState). not (m.0 == label) || (m.1.timer == full)) (zip labels bodies)
        ≡ list_all (λ (x : BodyState). x.timer == full) (map f rest)
        → ((not e || (b.timer == full))
        && list_all (λ (m : ℕ × BodyState). not (m.0 == label) || (m.1.timer == full)) (zip labels bodies))
        ≡ list_all (λ (x : BodyState). x.timer == full) (map f (cond c (k ∷ rest) rest))
    by true true same others = ap₂ (λ t u. t && u) (ap (λ t. t == full) (sym full_here)) others
    by true false same others = absurd cc
    by false true same others = absurd cc
    by false false same others = others

-- the bodies of a group that is awake, after the phase Sleep
pub rested_seen : (full : ℕ) (labels : List ℕ) (bodies : List BodyState) (label : ℕ) → length labels ≡ length bodies
    → All (λ i. (slice_index_or bodies i no_state).awake ≡ true) (group_members labels label)
    → states_of (group_members labels label) (bodies_after_sleep full labels bodies)
    ≡ island_after_sleep full (states_of (group_members labels label) bodies)
unfolding bodies_after_sleep
rested_seen full labels bodies label paired awake =
    map_where (λ i. IsMember labels bodies paired label i × ((slice_index_or bodies i no_state).awake ≡ true))
    (λ i. slice_index_or (map one (zip labels bodies)) i no_state)
    (λ i. if rests then at_sleep (slice_index_or bodies i no_state) else slice_index_or bodies i no_state)
    (λ i is. named_body labels bodies paired label one i is.0 ∙ awake_one (slice_index_or bodies i no_state) is.1)
    (group_members labels label) (λ i d inside. (members_are labels bodies paired label i d inside, awake i d inside))
    ∙ by rests
    (resting_from full label (λ i. slice_index_or labels i 0 == label) (λ i. slice_index_or bodies i no_state) 0 labels bodies paired
    (λ i within. ap (λ j. slice_index_or labels j 0 == label) (from_zero i))
    (λ i within. ap (λ j. slice_index_or bodies j no_state) (from_zero i)))
  where
    rests : Bool
    rests = is_resting full labels bodies label

    one : ℕ × BodyState → BodyState
    one m = if m.1.awake && is_resting full labels bodies m.0 then at_sleep m.1 else m.1

    from_zero : (i : ℕ) → 0 + i ≡ i
    from_zero i = omega arith

    awake_one : (b : BodyState) → b.awake ≡ true → one (label, b) ≡ (if rests then at_sleep b else b)
    awake_one b e = ap (λ t. if t && rests then at_sleep b else b) e

    by : (r : Bool)
        → r ≡ list_all (λ (b : BodyState). b.timer == full) (states_of (group_members labels label) bodies)
        → map (λ i. if r then at_sleep (slice_index_or bodies i no_state) else slice_index_or bodies i no_state) (group_members labels label)
        ≡ island_after_sleep full (states_of (group_members labels label) bodies)
    by r is =
        whole r
        ∙ ap (λ t. if t then map at_sleep (states_of (group_members labels label) bodies) else states_of (group_members labels label) bodies) is
      where
        whole : (t : Bool)
            → map (λ i. if t then at_sleep (slice_index_or bodies i no_state) else slice_index_or bodies i no_state) (group_members labels label)
            ≡ (if t then map at_sleep (states_of (group_members labels label) bodies) else states_of (group_members labels label) bodies)
        whole true = sym (map-map at_sleep (λ i. slice_index_or bodies i no_state) (group_members labels label))
        whole false = refl

-- ---- a tick

-- a tick leaves a body awake until the phase Sleep
moved_awake : (v : V2) (w : ℤ) (b : BodyState) → (moved_on v w b).awake ≡ b.awake
unfolding after_timer after_motion
moved_awake v w b = by b.awake
  where
    by : (t : Bool)
        → (if t then after_timer (after_motion (record b { velocity = v; spin = w }))
        else record b { velocity = v; spin = w }).awake ≡ b.awake
    by true = refl
    by false = refl

-- the bodies of an active group after a tick are those of the group alone
pub group_after : (s : Scene) (w : World) (payloads : List Payload) (label : ℕ)
    → length w.bodies ≡ length s.fixtures
    → is_active (labels_of_tick s w payloads) (after_commands s.fixtures w.bodies payloads) label ≡ true
    → let batch = batch_of_tick s w payloads in
    let own = group_members (labels_of_tick s w payloads) label in
    states_of own (step s w payloads).bodies
    ≡ island_after_sleep STILL_TICKS (solved_batch s (states_of own batch.bodies) (rows_among own batch.rows)).bodies
unfolding step woken_bodies
group_after s w payloads label paired active =
    rested_seen STILL_TICKS labels after label long
    (λ i d inside. awake_after (get_or own i d) (members_are labels after long label i d inside))
    ∙ ap (λ (b : Batch). island_after_sleep STILL_TICKS b.bodies) (sym (groups_alone s w payloads label paired))
  where
    commanded : List BodyState
    commanded = after_commands s.fixtures w.bodies payloads

    labels : List ℕ
    labels = labels_of_tick s w payloads

    own : List ℕ
    own = group_members labels label

    awake : List BodyState
    awake = woken_bodies labels commanded

    after : List BodyState
    after = (solved_batch s awake (batch_of_tick s w payloads).rows).bodies

    count : length commanded ≡ length s.fixtures
    count = commands_length s.fixtures w.bodies payloads ∙ paired

    named : length labels ≡ length commanded
    named = groups_long s (touches_of_scene s commanded) ∙ sym count

    kept : length after ≡ length awake
    kept = solved_length s awake (batch_of_tick s w payloads).rows

    long : length labels ≡ length after
    long = named ∙ sym (woken_length labels commanded named) ∙ sym kept

    woke : (i : ℕ) → IsMember labels commanded named label i → (slice_index_or awake i no_state).awake ≡ true
    woke i is =
        ap (λ (b : BodyState). b.awake)
        (named_body labels commanded named label (λ (m : ℕ × BodyState). record m.1 { awake = is_active labels commanded m.0 }) i is)
        ∙ active

    awake_after : (i : ℕ) → IsMember labels after long label i → (slice_index_or after i no_state).awake ≡ true
    awake_after i is =
        let here = slice_get-get_or after i no_state (omega (arith, is.0, long)) in
        let from = solved_body s awake (batch_of_tick s w payloads).rows i (slice_index_or after i no_state) here in
        ap (λ (b : BodyState). b.awake) from.moved ∙ moved_awake from.velocity from.spin from.before
        ∙ sym (ap (λ (b : BodyState). b.awake) (get_or_from_slice_get awake i from.before no_state from.stood))
        ∙ woke i (is.0, is.1)
