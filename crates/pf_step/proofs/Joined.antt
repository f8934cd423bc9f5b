-- Islands that are solved alone and put back make the world that the one list makes.
use Rattle.std.proofs.Common.{◌≡◌, ◌∙◌, inl, inr, ℕ, ◌<◌, ◌==◌, Bool, true, false, ◌&&◌, ◌||◌, List, [], ◌∷◌, Some, length, map, option_map, get_or, refl, sym, ap, subst, arith, slice_get, if◌then◌else◌}
use Rattle.std.proofs.lemmas.Bool.{and_parts, eqb-true, false_from_ne_true, true≢false}
use Rattle.std.proofs.lemmas.List.Elements.{All-filter, All-map, All-weaker}
use Rattle.std.proofs.lemmas.Option.{get_or_from_slice_get, slice_get-get_or, slice_get-map}
use Rattle.std.specs.List.{flat_map, list_any, range_with_len, zip}
use Rattle.std.specs.Prelude.{All}
use Rattle.pf_shapes.specs.Body.{BodyState, no_state}
use Rattle.pf_shapes.specs.Scene.{Scene}
use Rattle.pf_manifold.specs.Key.{AreTouches}
use Rattle.pf_manifold.specs.Touches.{IsTouchOf, Touch}
use Rattle.pf_cache.specs.Contact.{Contact}
use Rattle.pf_rows.specs.Row.{AreRows}
use Rattle.pf_cache.specs.ContactRows.{AreRowsAt}
use Rattle.pf_cache.proofs.Kept.{same_keys}
use Rattle.pf_islands.specs.Island.{has_number, is_among, group_members, rows_among, states_of, touches_one}
use Rattle.pf_islands.specs.Join.{IsAtHome, joined_bodies, joined_contacts}
use Rattle.pf_islands.specs.Rows.{is_awake_at}
use Rattle.pf_islands.specs.Sleep.{at_sleep, is_active, is_resting, bodies_after_sleep}
use Rattle.pf_islands.specs.Split.{AreWoken, IsActiveRow, Island, active_labels, is_active_label, island_of}
use Rattle.pf_islands.proofs.ActiveRows.{rows_beside, rows_in_order}
use Rattle.pf_islands.proofs.Elements.{zip_at}
use Rattle.pf_islands.proofs.HomeAgain.{joined_contacts_are, joined_is}
use Rattle.pf_cache.proofs.ChosenNumbers.{chosen_pass, range_within}
use Rattle.pf_islands.proofs.Starting.{groups_long, groups_named}
use Rattle.pf_islands.proofs.Together.{groups_woken, name_of, rows_are_active, woken_at}
use Rattle.pf_islands.proofs.Whole.{body_has_island, islands_at_contacts, islands_at_home, row_has_island, sides_awake}
use Rattle.pf_solver.specs.declared.bodies.TheConstants.{STILL_TICKS}
use Rattle.pf_solver.specs.Alone.{island_after_tick}
use Rattle.pf_solver.specs.Solve.{solved_batch}
use Rattle.pf_solver.specs.Velocities.{Batch}
use Rattle.pf_solver.proofs.AfterTick.{after_tick_at_contacts, after_tick_at_home}
use Rattle.pf_solver.proofs.Solved.{IsAway, solved_sides, solved_touches, untouched_body}
use Rattle.pf_step.specs.Activity.{batch_of_bodies, contacts_of_bodies, islands_of_bodies, labels_of_bodies}
use Rattle.pf_step.specs.Commands.{after_commands}
use Rattle.pf_step.specs.Step.{step, touches_of_scene, world_after}
use Rattle.pf_step.specs.World.{World}
use Rattle.pf_step.proofs.Alone.{group_after}
use Rattle.pf_step.proofs.Apart.{groups_alone}
use Rattle.pf_step.proofs.Lengths.{updated_length, woken_length, world_after_length}
use Rattle.pf_step.proofs.Touching.{points_of_bodies}
use Rattle.pf_step.proofs.TickCases.{woken_at as body_woken_at}
use Rattle.pf_step.proofs.Changing.{number_of_all}

-- a test of mapped elements
pub any_mapped : {X Y : Type 0} (p : Y → Bool) (f : X → Y) (xs : List X) → list_any p (map f xs) ≡ list_any (λ x. p (f x)) xs
any_mapped p f [] = refl
any_mapped p f (x ∷ xs) = ap (λ t. p (f x) || t) (any_mapped p f xs)

module _ (s : Scene) (before : List Contact) (commanded : List BodyState) (count : length commanded ≡ length s.fixtures) where
  -- the laws of ticks are of worlds and commands: here there are none
  abbrev w : World
  w = record { bodies = commanded; contacts = before }

  abbrev pub points : List Touch
  points = touches_of_scene s commanded

  abbrev pub labels : List ℕ
  labels = labels_of_bodies s commanded

  abbrev pub batch : Batch
  batch = batch_of_bodies s before commanded

  abbrev pub contacts : List Contact
  contacts = contacts_of_bodies s before commanded

  abbrev pub after : Batch
  after = solved_batch s batch.bodies batch.rows

  abbrev pub found : List Island
  found = islands_of_bodies s before commanded

  -- the islands of the tick after it
  abbrev pub ended : List Island
  ended = map (island_after_tick s) found

  pub awake_long : length batch.bodies ≡ length s.fixtures
  awake_long = woken_length labels commanded (groups_long s points ∙ sym count) ∙ count

  are_woken : AreWoken labels batch.bodies
  are_woken = groups_woken s points commanded count

  pub are_active : All (IsActiveRow labels batch.bodies) batch.rows
  are_active =
      rows_are_active s points batch.bodies contacts awake_long
      (subst (λ n. All (IsTouchOf n) points) (count ∙ sym awake_long) (points_of_bodies s commanded count))

  -- ---- what putting islands back requires

  pub ended_at_home : All (IsAtHome (length commanded)) ended
  ended_at_home =
      after_tick_at_home s (length commanded) found
      (subst (λ n. All (IsAtHome n) found) (groups_long s points ∙ sym count)
      (islands_at_home labels batch.bodies batch.rows))

  pub ended_at_contacts : AreTouches points → All (λ (i : Island). AreRowsAt contacts i.rows) ended
  ended_at_contacts order =
      after_tick_at_contacts s contacts found
      (islands_at_contacts labels batch.bodies batch.rows contacts
      (rows_beside s batch.bodies points contacts (same_keys before points) (updated_length before points) order))

  -- ---- what the islands have

  -- what holds of the island of each group that is simulated, after the tick, holds of all
  all_ended : (P : Island → Type 0)
      → ((name : ℕ) → name < length s.fixtures → is_active_label labels batch.bodies name ≡ true
      → P (island_after_tick s (island_of batch.bodies batch.rows (group_members labels name)))) → All P ended
  all_ended P each =
      All-map P (island_after_tick s) found
      (All-map (λ i. P (island_after_tick s i)) (λ name. island_of batch.bodies batch.rows (group_members labels name))
      (active_labels labels batch.bodies)
      (λ k d within.
      each (get_or (active_labels labels batch.bodies) k d)
      (All-filter (is_active_label labels batch.bodies) (λ n. n < length s.fixtures) (range_with_len 0 (length labels))
      (range_within 0 (length labels) (length s.fixtures) (omega (arith, groups_long s points))) k d within)
      (chosen_pass (is_active_label labels batch.bodies) (range_with_len 0 (length labels)) k d within)))

  -- a group that is simulated has an awake body after the commands
  pub active_group : (name : ℕ) → name < length s.fixtures → is_active_label labels batch.bodies name ≡ true
      → is_active labels commanded name ≡ true
  active_group name within active =
      let parts = and_parts (get_or labels name 0 == name) (is_awake_at batch.bodies name) active in
      ap (is_active labels commanded) (sym (eqb-true (get_or labels name 0) name parts.0) ∙ name_of s points name within)
      ∙ sym (woken_at s points commanded count name within) ∙ parts.1

  -- the states of the world after the tick
  pub states_ended : All (λ (i : Island). i.bodies ≡ states_of i.numbers (world_after s before commanded).bodies) ended
  unfolding step after_commands
  states_ended =
      all_ended (λ (i : Island). i.bodies ≡ states_of i.numbers (world_after s before commanded).bodies)
      (λ name within active. sym (group_after s w [] name count (active_group name within active)))

  -- and the rows of the one list
  pub rows_ended : All (λ (i : Island). i.rows ≡ rows_among i.numbers after.rows) ended
  unfolding after_commands
  rows_ended =
      all_ended (λ (i : Island). i.rows ≡ rows_among i.numbers after.rows)
      (λ name within active. ap (λ (b : Batch). b.rows) (groups_alone s w [] name count))

  -- each of these rows is of an island
  pub rows_are_ended : All (λ r. list_any (λ (i : Island). touches_one i.numbers r) ended ≡ true) after.rows
  rows_are_ended =
      solved_sides s batch.bodies batch.rows
      (λ first second. list_any (λ (i : Island). is_among i.numbers first || is_among i.numbers second) ended ≡ true)
      (All-weaker (IsActiveRow labels batch.bodies)
      (λ r. list_any (λ (i : Island). touches_one i.numbers r) ended ≡ true)
      (λ r active.
      any_mapped (λ (i : Island). touches_one i.numbers r) (island_after_tick s) found
      ∙ row_has_island labels batch.bodies batch.rows r (groups_named s points) are_woken active)
      batch.rows are_active)

  -- ---- bodies of no island

  -- they are asleep
  asleep : (j : ℕ) → j < length s.fixtures → list_any (λ (i : Island). has_number i.numbers j) ended ≡ false
      → is_awake_at batch.bodies j ≡ false
  asleep j within none =
      false_from_ne_true (is_awake_at batch.bodies j)
      (λ awake.
      true≢false
      (sym (any_mapped (λ (i : Island). has_number i.numbers j) (island_after_tick s) found
      ∙ body_has_island labels batch.bodies batch.rows j (omega (arith, within, groups_long s points)) (groups_named s points)
      are_woken awake)
      ∙ none))

  -- no row touches them
  away : (j : ℕ) → is_awake_at batch.bodies j ≡ false → All (IsAway j) batch.rows
  away j sleeps =
      All-weaker (IsActiveRow labels batch.bodies) (IsAway j)
      (λ r active.
      let wakes = sides_awake labels batch.bodies r (groups_named s points) are_woken active j in (
        λ first. true≢false (sym (wakes (inl first)) ∙ sleeps),
        λ second. true≢false (sym (wakes (inr second)) ∙ sleeps),
      ))
      batch.rows are_active

  -- so they stay as they are
  stays : (j : ℕ) → j < length s.fixtures → is_awake_at batch.bodies j ≡ false
      → get_or batch.bodies j no_state ≡ get_or (world_after s before commanded).bodies j no_state
  unfolding bodies_after_sleep
  stays j within sleeps =
      let b = get_or batch.bodies j no_state in
      let here : slice_get batch.bodies j ≡ Some b =
      slice_get-get_or batch.bodies j no_state (omega (arith, within, awake_long)) in
      let solved_same : slice_get after.bodies j ≡ Some b =
      untouched_body s batch.bodies batch.rows j b here (away j sleeps) ∙ rw sleeps refl in
      sym (get_or_from_slice_get (map rest (zip labels after.bodies)) j b no_state
      (slice_get-map rest (zip labels after.bodies) j
      ∙ ap (option_map rest) (zip_at labels after.bodies j (get_or labels j 0) b
      (slice_get-get_or labels j 0 (omega (arith, within, groups_long s points))) solved_same)
      ∙ rw sleeps refl))
    where
      rest : ℕ × BodyState → BodyState
      rest m = if m.1.awake && is_resting STILL_TICKS labels after.bodies m.0 then at_sleep m.1 else m.1

  -- nothing woke them
  slept : (j : ℕ) → j < length s.fixtures → is_awake_at batch.bodies j ≡ false
      → get_or commanded j no_state ≡ get_or batch.bodies j no_state
  slept j within sleeps =
      let b = get_or batch.bodies j no_state in
      let w = body_woken_at labels commanded j b (slice_get-get_or batch.bodies j no_state (omega (arith, within, awake_long))) in
      get_or_from_slice_get commanded j w.from no_state w.is_there
      ∙ by w.from w.flag (w.from.awake) refl (ap (λ (x : BodyState). x.awake) w.value ∙ sleeps) w.stays ∙ w.value
    where
      by : (x : BodyState) (flag awake : Bool) → x.awake ≡ awake → flag ≡ false → (x.awake ≡ true → flag ≡ true)
          → x ≡ record x { awake = flag }
      by x flag true is off on = absurd (true≢false (sym (on is) ∙ off))
      by x flag false is off on = ap (λ t. record x { awake = t }) (is ∙ sym off)

  -- so a body of no island is after the tick as it was after the commands
  pub others_stay : (j : ℕ) → j < length s.fixtures → list_any (λ (i : Island). has_number i.numbers j) ended ≡ false
      → get_or commanded j no_state ≡ get_or (world_after s before commanded).bodies j no_state
  others_stay j within none =
      let sleeps = asleep j within none in
      slept j within sleeps ∙ stays j within sleeps

  -- ---- the world

  pub ended_join : AreTouches points
      → (joined_bodies ended commanded ≡ (world_after s before commanded).bodies)
      × (joined_contacts ended contacts ≡ (world_after s before commanded).contacts)
  ended_join order =
      let rows : AreRows batch.rows = rows_in_order s batch.bodies points contacts order in (
        joined_is (world_after s before commanded).bodies ended commanded
            (world_after_length s before commanded count ∙ sym count) states_ended
            (λ j inside none. others_stay j (omega (arith, inside, count)) none),
        joined_contacts_are after.rows ended contacts
            (subst AreTouches (sym (solved_touches s batch.bodies batch.rows)) rows) rows_ended rows_are_ended,
      )

  -- the islands have all awake bodies
  pub islands_have_awake : (j : ℕ) → j < length commanded → is_awake_at commanded j ≡ true
      → has_number (flat_map (λ (i : Island). i.numbers) found) j ≡ true
  islands_have_awake j within awake =
      number_of_all found j ∙ sym (any_mapped (λ (i : Island). has_number i.numbers j) (island_after_tick s) found)
      ∙ by (list_any (λ (i : Island). has_number i.numbers j) ended) refl
    where
      by : (e : Bool) → list_any (λ (i : Island). has_number i.numbers j) ended ≡ e
          → list_any (λ (i : Island). has_number i.numbers j) ended ≡ true
      by true is = is
      by false none =
          let inside : j < length s.fixtures = omega (arith, within, count) in
          let sleeps = asleep j inside none in
          absurd (true≢false (sym awake ∙ ap (λ (b : BodyState). b.awake) (slept j inside sleeps) ∙ sleeps))
