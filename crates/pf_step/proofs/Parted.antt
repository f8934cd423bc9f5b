-- A tick whose islands without contacts are left out, and whose bodies go through the tick in their
-- place.
use Rattle.std.proofs.Common.{◌≡◌, ◌∙◌, ⊎_elim, ℕ, ◌<◌, ◌==◌, Bool, true, false, not, ◌&&◌, ◌||◌, List, [], ◌∷◌, ◌++◌, cond, filter, get_or, length, map, refl, sym, ap, ap₂, subst, arith, if◌then◌else◌}
use Rattle.std.proofs.lemmas.Bool.{and_parts, eqb-true, or_cases, true≢false}
use Rattle.std.proofs.lemmas.List.Elements.{All-filter, All-head, All-map, All-tail}
use Rattle.std.proofs.lemmas.Grind.{flat_map-append}
use Rattle.std.proofs.lemmas.List.Folds.{list_any-append}
use Rattle.std.proofs.lemmas.Option.{get_or_from_slice_get, slice_get-get_or, slice_get_within}
use Rattle.std.specs.List.{flat_map, list_any, range_with_len}
use Rattle.std.specs.Prelude.{All}
use Rattle.pf_rot.specs.Vector.{V2}
use Rattle.pf_shapes.specs.Body.{BodyState, no_state}
use Rattle.pf_shapes.specs.Scene.{Scene}
use Rattle.pf_manifold.specs.Key.{AreTouches}
use Rattle.pf_manifold.specs.Touches.{IsTouchOf, Touch}
use Rattle.pf_rows.specs.Row.{Row}
use Rattle.pf_cache.specs.Contact.{Contact}
use Rattle.pf_cache.specs.ContactRows.{AreRowsAt, with_rows}
use Rattle.pf_islands.specs.declared.splitting.LoneBodies.{LoneBodies}
use Rattle.pf_islands.specs.declared.splitting.LoneBodies.TheVariants.{AreIslands, AreListed}
use Rattle.pf_islands.specs.Group.{groups}
use Rattle.pf_islands.specs.Island.{has_number, group_members, rows_among, states_of}
use Rattle.pf_islands.specs.Join.{IsAtHome, joined_bodies, joined_contacts}
use Rattle.pf_islands.specs.Lone.{has_rows, is_made, is_touched, lone_numbers, made_islands}
use Rattle.pf_islands.specs.Rows.{is_active_contact, is_awake_at}
use Rattle.pf_islands.specs.Settled.{AreSettled}
use Rattle.pf_islands.specs.Sleep.{at_sleep, island_after_sleep}
use Rattle.pf_islands.specs.Split.{Island, active_labels, is_active_label, island_of}
use Rattle.pf_islands.proofs.Filled.{is_member}
use Rattle.pf_islands.proofs.HomeAgain.{joined_is}
use Rattle.pf_islands.proofs.Lone.{touched_named}
use Rattle.pf_islands.proofs.LoneGroups.{has_touch, lone_members, rows_of_group, negated}
use Rattle.pf_islands.proofs.Looked.{any_found}
use Rattle.pf_islands.proofs.SettledGroups.{chosen_rows, same_members, woken_settled}
use Rattle.pf_islands.proofs.Starting.{groups_long}
use Rattle.pf_cache.proofs.ChosenNumbers.{chosen_pass, range_within}
use Rattle.pf_solver.specs.declared.bodies.TheConstants.{STILL_TICKS}
use Rattle.pf_solver.specs.Alone.{lone_bodies_after_tick, lone_body_after_tick, island_after_tick}
use Rattle.pf_solver.specs.Bodies.{after_gravity, after_motion, after_timer, gravity_per_tick}
use Rattle.pf_solver.specs.Solve.{solved_batch}
use Rattle.pf_solver.specs.Velocities.{Batch}
use Rattle.pf_solver.proofs.Free.{free_is_solved}
use Rattle.pf_solver.proofs.OneByOne.{lone_body_at, lone_bodies_long}
use Rattle.pf_step.specs.Activity.{batch_of_bodies, contacts_of_bodies, islands_of_bodies, labels_of_bodies}
use Rattle.pf_step.specs.Changes.{bodies_before, changes_of, changes_of_islands}
use Rattle.pf_step.specs.Commands.{after_commands}
use Rattle.pf_step.specs.Step.{step, touches_of_scene, world_after}
use Rattle.pf_step.specs.World.{World}
use Rattle.pf_step.proofs.Alone.{group_after}
use Rattle.pf_step.proofs.Changing.{noted_before, notes_of_all, number_of_all}
use Rattle.pf_step.proofs.Joined.{active_group, any_mapped, awake_long, ended_at_contacts, ended_at_home, islands_have_awake, others_stay, states_ended}
use Rattle.pf_step.proofs.Lengths.{world_after_length}
use Rattle.pf_step.proofs.TickCases.{woken_at}
use Rattle.pf_step.proofs.Touching.{points_of_bodies}
use Rattle.pf_cache.proofs.Splicing.{all_unmap}

-- ---- elements of two parts

any_parted : {X : Type 0} (g p : X → Bool) (xs : List X) → list_any g (filter p xs) ≡ false
    → list_any g (filter (λ x. not (p x)) xs) ≡ false → list_any g xs ≡ false
any_parted g p [] one two = refl
any_parted g p (x ∷ xs) one two = by (p x) one two (any_parted g p xs)
  where
    first : (a b : Bool) → (a || b) ≡ false → (a ≡ false) × (b ≡ false)
    first true b e = absurd (true≢false e)
    first false b e = (refl, e)

    by : (e : Bool) → list_any g (cond e (x ∷ filter p xs) (filter p xs)) ≡ false
        → list_any g (cond (not e) (x ∷ filter (λ y. not (p y)) xs) (filter (λ y. not (p y)) xs)) ≡ false
        → (list_any g (filter p xs) ≡ false → list_any g (filter (λ y. not (p y)) xs) ≡ false → list_any g xs ≡ false)
        → (g x || list_any g xs) ≡ false
    by true a b rest = let parts = first (g x) (list_any g (filter p xs)) a in ap₂ (λ s t. s || t) parts.0 (rest parts.1 b)
    by false a b rest =
        let parts = first (g x) (list_any g (filter (λ y. not (p y)) xs)) b in ap₂ (λ s t. s || t) parts.0 (rest a parts.1)

-- an element of a part
any_in : {X : Type 0} (P : X → Type 0) (g p : X → Bool) (Q : Type 0) (xs : List X) → All P xs
    → ((x : X) → P x → p x ≡ true → g x ≡ true → Q) → list_any g (filter p xs) ≡ true → Q
any_in P g p Q [] all each some = absurd (true≢false (sym some))
any_in P g p Q (x ∷ xs) all each some = by (p x) refl some (any_in P g p Q xs (All-tail P x xs all) each)
  where
    by : (e : Bool) → p x ≡ e → list_any g (cond e (x ∷ filter p xs) (filter p xs)) ≡ true
        → (list_any g (filter p xs) ≡ true → Q) → Q
    by true is h rest = ⊎_elim (λ here. each x (All-head P x xs all) is here) rest (or_cases (g x) (list_any g (filter p xs)) h)
    by false is h rest = rest h

nothing : (rows : List Row) → has_rows rows ≡ false → rows ≡ []
nothing [] none = refl
nothing (r ∷ rows) none = absurd (true≢false none)

-- ---- an island of one body without contacts

module _ (s : Scene) where
  abbrev pull : V2
  pull = gravity_per_tick s.gravity

  abbrev moved : BodyState → BodyState
  moved b = after_timer (after_motion (after_gravity pull b))

  moved_awake : (b : BodyState) → b.awake ≡ true → (if b.awake then moved b else b).awake ≡ true
  unfolding after_timer after_motion after_gravity
  moved_awake b is = by b.awake is
    where
      by : (e : Bool) → e ≡ true → (if e then moved b else b).awake ≡ true
      by true h = is
      by false h = absurd (true≢false (sym h))

  one_after : (b : BodyState) → b.awake ≡ true
      → island_after_sleep STILL_TICKS (solved_batch s (b ∷ []) []).bodies ≡ lone_body_after_tick pull b ∷ []
  unfolding lone_body_after_tick
  one_after b awake =
      ap (λ (x : Batch). island_after_sleep STILL_TICKS x.bodies) (sym (free_is_solved s (b ∷ []) [] refl))
      ∙ by (if b.awake then moved b else b) (moved_awake b awake)
    where
      by : (x : BodyState) → x.awake ≡ true
          → island_after_sleep STILL_TICKS (x ∷ []) ≡ (if x.awake && (x.timer == STILL_TICKS) then at_sleep x else x) ∷ []
      by x is =
          cases (x.timer == STILL_TICKS)
          ∙ ap (λ e. (if e && (x.timer == STILL_TICKS) then at_sleep x else x) ∷ []) (sym is)
        where
          cases : (t : Bool) → (if t && true then at_sleep x ∷ [] else x ∷ []) ≡ (if true && t then at_sleep x else x) ∷ []
          cases true = refl
          cases false = refl

-- ---- a tick

module _ (s : Scene) (before : List Contact) (commanded : List BodyState) (count : length commanded ≡ length s.fixtures) where
  abbrev w : World
  w = record { bodies = commanded; contacts = before }

  abbrev points : List Touch
  points = touches_of_scene s commanded

  abbrev labels : List ℕ
  labels = labels_of_bodies s commanded

  abbrev batch : Batch
  batch = batch_of_bodies s before commanded

  abbrev found : List Island
  found = islands_of_bodies s before commanded

  abbrev final : List BodyState
  final = (world_after s before commanded).bodies

  of : All (IsTouchOf (length batch.bodies)) points
  of =
      subst (λ n. All (IsTouchOf n) points) (count ∙ sym (awake_long s before commanded count)) (points_of_bodies s commanded count)

  settled : AreSettled s batch.bodies points
  settled = woken_settled s points commanded count (points_of_bodies s commanded count)

  abbrev chosen : List Touch
  chosen = filter (is_active_contact s batch.bodies) points

  -- what is known of the island of a group
  abbrev IsAsAlone : Island → Type 0
  IsAsAlone i =
      is_touched i ≡ false → (j : ℕ) → has_number i.numbers j ≡ true
      → lone_body_after_tick (gravity_per_tick s.gravity) (get_or commanded j no_state) ≡ get_or final j no_state

  -- a group without contacts that is simulated
  module _ (name : ℕ) (within : name < length s.fixtures) (active : is_active_label labels batch.bodies name ≡ true)
      (untouched : is_touched (island_of batch.bodies batch.rows (group_members labels name)) ≡ false) where
    own : (get_or labels name 0 == name) ≡ true
    own = (and_parts (get_or labels name 0 == name) (is_awake_at batch.bodies name) active).0

    up : is_awake_at batch.bodies name ≡ true
    up = (and_parts (get_or labels name 0 == name) (is_awake_at batch.bodies name) active).1

    alike : group_members (groups s chosen) name ≡ group_members labels name
    alike = same_members s batch.bodies points (awake_long s before commanded count) settled name up

    chosen_own : get_or (groups s chosen) name 0 ≡ name
    chosen_own =
        eqb-true (get_or (groups s chosen) name 0) name
        (sym (is_member (groups s chosen) batch.bodies name name (omega (arith, within, groups_long s chosen)))
        ∙ ap (λ ns. has_number ns name) alike
        ∙ is_member labels batch.bodies name name (omega (arith, within, groups_long s points))
        ∙ own)

    no_touch : has_touch s batch.bodies points (awake_long s before commanded count) settled of name ≡ false
    no_touch =
        sym (rows_of_group s batch.bodies points (awake_long s before commanded count) settled of (contacts_of_bodies s before commanded) name)
        ∙ sym (touched_named (groups s chosen) batch.bodies batch.rows
        (chosen_rows s batch.bodies points (awake_long s before commanded count) settled (contacts_of_bodies s before commanded) of) name)
        ∙ ap (λ ns. is_touched (island_of batch.bodies batch.rows ns)) alike
        ∙ untouched

    one : group_members labels name ≡ name ∷ []
    one =
        sym alike
        ∙ lone_members s batch.bodies points (awake_long s before commanded count) settled of
        (has_touch s batch.bodies points (awake_long s before commanded count) settled of)
        (λ label inside some. some) name within chosen_own no_touch

    -- its body was awake before contacts woke others
    was_up : is_awake_at commanded name ≡ true
    was_up =
        let at = any_found (λ m. (m.0 == name) && m.1.awake) labels commanded (active_group s before commanded count name within active) in
        let parts = and_parts (at.1 == name) at.2.awake at.5 in
        let label : get_or labels at.0 0 ≡ at.1 = get_or_from_slice_get labels at.0 at.1 0 at.3 in
        let there : at.0 < length labels = slice_get_within labels at.0 at.1 at.3 in
        let is : (name == at.0) ≡ true =
        only at.0
        (sym (ap (λ ns. has_number ns at.0) one) ∙ is_member labels batch.bodies name at.0 there ∙ ap (λ n. n == name) label ∙ parts.0) in
        ap (λ i. is_awake_at commanded i) (eqb-true name at.0 is)
        ∙ ap (λ (b : BodyState). b.awake) (get_or_from_slice_get commanded at.0 at.2 no_state at.4)
        ∙ parts.1
      where
        only : (n : ℕ) → ((name == n) || false) ≡ true → (name == n) ≡ true
        only n h = by (name == n) h
          where
            by : (e : Bool) → (e || false) ≡ true → e ≡ true
            by true e = refl
            by false e = e

    -- and stayed as it was
    unchanged : get_or batch.bodies name no_state ≡ get_or commanded name no_state
    unchanged =
        let b = get_or batch.bodies name no_state in
        let woke = woken_at labels commanded name b
        (slice_get-get_or batch.bodies name no_state (omega (arith, within, awake_long s before commanded count))) in
        let from : get_or commanded name no_state ≡ woke.from = get_or_from_slice_get commanded name woke.from no_state woke.is_there in
        let was : woke.from.awake ≡ true = sym (ap (λ (x : BodyState). x.awake) from) ∙ was_up in
        sym woke.value
        ∙ ap (λ e. record woke.from { awake = e }) (ap (λ (x : BodyState). x.awake) woke.value ∙ up ∙ sym was)
        ∙ sym from

    final_one : get_or final name no_state ∷ [] ≡ lone_body_after_tick (gravity_per_tick s.gravity) (get_or commanded name no_state) ∷ []
    unfolding step after_commands
    final_one =
        let none : rows_among (group_members labels name) batch.rows ≡ [] = nothing (rows_among (group_members labels name) batch.rows) untouched in
        ap (λ ns. states_of ns final) (sym one)
        ∙ group_after s w [] name count (active_group s before commanded count name within active)
        ∙ ap₂ (λ ns rows. island_after_sleep STILL_TICKS (solved_batch s (states_of ns batch.bodies) rows).bodies) one none
        ∙ one_after s (get_or batch.bodies name no_state) up
        ∙ ap (λ b. lone_body_after_tick (gravity_per_tick s.gravity) b ∷ []) unchanged

  all_alone : All IsAsAlone found
  all_alone =
      All-map IsAsAlone (λ name. island_of batch.bodies batch.rows (group_members labels name)) (active_labels labels batch.bodies)
      (λ k d inside.
      let name = get_or (active_labels labels batch.bodies) k d in
      let small = All-filter (is_active_label labels batch.bodies) (λ n. n < length s.fixtures) (range_with_len 0 (length labels))
      (range_within 0 (length labels) (length s.fixtures) (omega (arith, groups_long s points))) k d inside in
      each name small (chosen_pass (is_active_label labels batch.bodies) (range_with_len 0 (length labels)) k d inside))
    where
      each : (name : ℕ) → name < length s.fixtures → is_active_label labels batch.bodies name ≡ true
          → IsAsAlone (island_of batch.bodies batch.rows (group_members labels name))
      each name within active untouched j has =
          let is : ((name == j) || false) ≡ true = sym (ap (λ ns. has_number ns j) (one name within active untouched)) ∙ has in
          let same : name ≡ j = by (name == j) refl is in
          let both = final_one name within active untouched in
          sym
          (ap (λ n. get_or final n no_state) (sym same) ∙ first both
          ∙ ap (λ n. lone_body_after_tick (gravity_per_tick s.gravity) (get_or commanded n no_state)) same)
        where
          first : {x y : BodyState} → x ∷ [] ≡ y ∷ [] → x ≡ y
          first e = cc

          by : (e : Bool) → (name == j) ≡ e → (e || false) ≡ true → name ≡ j
          by true e h = eqb-true name j e
          by false e h = absurd (true≢false (sym h))

  -- ---- islands that are left out

  module _ (lone : LoneBodies) where
    abbrev pub made : List Island
    made = made_islands lone found

    abbrev pub others : List Island
    others = filter (λ i. not (is_made lone i)) found

    left_out : (i : Island) → not (is_made lone i) ≡ true → is_touched i ≡ false
    left_out i h = by lone h
      where
        by : (l : LoneBodies) → not (is_made l i) ≡ true → is_touched i ≡ false
        by AreIslands e = absurd (true≢false (sym e))
        by AreListed e = negated (is_touched i) e

    -- their bodies
    alone_after : (j : ℕ) → has_number (lone_numbers lone found) j ≡ true
        → lone_body_after_tick (gravity_per_tick s.gravity) (get_or commanded j no_state) ≡ get_or final j no_state
    alone_after j has =
        any_in IsAsAlone (λ i. has_number i.numbers j) (λ i. not (is_made lone i))
        (lone_body_after_tick (gravity_per_tick s.gravity) (get_or commanded j no_state) ≡ get_or final j no_state) found all_alone
        (λ i alone out own. alone (left_out i out) j own)
        (sym (number_of_all others j) ∙ has)

    -- a body of no island, and of none that is left out
    of_none : (j : ℕ) → j < length s.fixtures → list_any (λ (i : Island). has_number i.numbers j) made ≡ false
        → list_any (λ (i : Island). has_number i.numbers j) others ≡ false
        → get_or commanded j no_state ≡ get_or final j no_state
    of_none j within first second =
        others_stay s before commanded count j within
        (any_mapped (λ (i : Island). has_number i.numbers j) (island_after_tick s) found
        ∙ any_parted (λ (i : Island). has_number i.numbers j) (is_made lone) found first second)

    -- what holds of all islands after the tick holds of those that are made
    of_made : (P : Island → Type 0) → All P (map (island_after_tick s) found) → All P (map (island_after_tick s) made)
    of_made P all =
        All-map P (island_after_tick s) made
        (All-filter (is_made lone) (λ i. P (island_after_tick s i)) found (all_unmap P (island_after_tick s) found all))

    module _ (alone : List ℕ) (alone_are : alone ≡ lone_numbers lone found) where
      abbrev pub advanced : List BodyState
      advanced = lone_bodies_after_tick (gravity_per_tick s.gravity) alone commanded

      pub made_at_home : All (IsAtHome (length advanced)) (map (island_after_tick s) made)
      made_at_home =
          subst (λ n. All (IsAtHome n) (map (island_after_tick s) made))
          (sym (lone_bodies_long (gravity_per_tick s.gravity) commanded alone))
          (of_made (IsAtHome (length commanded)) (ended_at_home s before commanded count))

      pub parted_bodies : joined_bodies (map (island_after_tick s) made) advanced ≡ final
      parted_bodies =
          let long = lone_bodies_long (gravity_per_tick s.gravity) commanded alone in
          joined_is final (map (island_after_tick s) made) advanced
          (world_after_length s before commanded count ∙ sym count ∙ sym long)
          (of_made (λ (i : Island). i.bodies ≡ states_of i.numbers final) (states_ended s before commanded count))
          (λ j inside none.
          let small : j < length commanded = omega (arith, inside, long) in
          let first = sym (any_mapped (λ (i : Island). has_number i.numbers j) (island_after_tick s) made) ∙ none in
          lone_body_at (gravity_per_tick s.gravity) commanded alone j small
          ∙ by j small first (has_number alone j) refl)
        where
          by : (j : ℕ) → j < length commanded → list_any (λ (i : Island). has_number i.numbers j) made ≡ false → (e : Bool)
              → has_number alone j ≡ e
              → (if e then lone_body_after_tick (gravity_per_tick s.gravity) (get_or commanded j no_state) else get_or commanded j no_state)
              ≡ get_or final j no_state
          by j small first true has = alone_after j (ap (λ ns. has_number ns j) (sym alone_are) ∙ has)
          by j small first false not_alone =
              of_none j (omega (arith, small, count)) first
              (sym (number_of_all others j) ∙ ap (λ ns. has_number ns j) (sym alone_are) ∙ not_alone)

    pub made_at_contacts : AreTouches points
        → All (λ (i : Island). AreRowsAt (contacts_of_bodies s before commanded) i.rows) (map (island_after_tick s) made)
    made_at_contacts order =
        of_made (λ (i : Island). AreRowsAt (contacts_of_bodies s before commanded) i.rows)
        (ended_at_contacts s before commanded count order)

    -- islands without contacts store nothing
    none_stored : (contacts : List Contact) → with_rows contacts [] ≡ contacts
    unfolding with_rows
    none_stored [] = refl
    none_stored (c ∷ contacts) = ap (λ cs. c ∷ cs) (none_stored contacts)

    pub parted_contacts : (islands : List Island) (contacts : List Contact)
        → joined_contacts (map (island_after_tick s) (made_islands lone islands)) contacts
        ≡ joined_contacts (map (island_after_tick s) islands) contacts
    parted_contacts [] contacts = refl
    parted_contacts (i ∷ islands) contacts = by (is_made lone i) refl (parted_contacts islands)
      where
        by : (e : Bool) → is_made lone i ≡ e
            → ((cs : List Contact) → joined_contacts (map (island_after_tick s) (made_islands lone islands)) cs
            ≡ joined_contacts (map (island_after_tick s) islands) cs)
            → joined_contacts (map (island_after_tick s) (cond e (i ∷ made_islands lone islands) (made_islands lone islands))) contacts
            ≡ joined_contacts (map (island_after_tick s) islands) (with_rows contacts (solved_batch s i.bodies i.rows).rows)
        by true is rest = rest (with_rows contacts (solved_batch s i.bodies i.rows).rows)
        by false is rest =
            let none : i.rows ≡ [] = nothing i.rows (left_out i (ap not is)) in
            rest contacts
            ∙ ap (joined_contacts (map (island_after_tick s) islands))
            (sym
            (ap (λ rows. with_rows contacts (solved_batch s i.bodies rows).rows) none
            ∙ ap (λ (b : Batch). with_rows contacts b.rows) (sym (free_is_solved s i.bodies [] refl))
            ∙ none_stored contacts))

    -- ---- what is noted

    -- the islands that are made, and then the others
    pub noted_in_order : (bodies : List BodyState)
        → changes_of_islands bodies made ++ changes_of bodies (lone_numbers lone found) ≡ changes_of_islands bodies (made ++ others)
    noted_in_order bodies =
        ap (λ cs. changes_of_islands bodies made ++ cs) (sym (notes_of_all bodies (λ (i : Island). i.numbers) others))
        ∙ sym (flat_map-append (λ (i : Island). changes_of bodies i.numbers) made others)

    pub parted_before : bodies_before (changes_of_islands commanded (made ++ others)) final ≡ commanded
    parted_before =
        let numbers = flat_map (λ (i : Island). i.numbers) (made ++ others) in
        ap (λ cs. bodies_before cs final) (notes_of_all commanded (λ (i : Island). i.numbers) (made ++ others))
        ∙ noted_before commanded final (world_after_length s before commanded count ∙ sym count) numbers
        (λ j within none.
        let parts = neither (list_any (λ (i : Island). has_number i.numbers j) made)
        (list_any (λ (i : Island). has_number i.numbers j) others)
        (sym (list_any-append (λ (i : Island). has_number i.numbers j) made others) ∙ sym (number_of_all (made ++ others) j) ∙ none) in
        sym (of_none j (omega (arith, within, count)) parts.0 parts.1))
      where
        neither : (a b : Bool) → (a || b) ≡ false → (a ≡ false) × (b ≡ false)
        neither true b e = absurd (true≢false e)
        neither false b e = (refl, e)

    pub parted_have_awake : (j : ℕ) → j < length commanded → is_awake_at commanded j ≡ true
        → has_number (flat_map (λ (i : Island). i.numbers) (made ++ others)) j ≡ true
    parted_have_awake j within awake =
        number_of_all (made ++ others) j
        ∙ list_any-append (λ (i : Island). has_number i.numbers j) made others
        ∙ by (list_any (λ (i : Island). has_number i.numbers j) made) refl (list_any (λ (i : Island). has_number i.numbers j) others) refl
      where
        by : (a : Bool) → list_any (λ (i : Island). has_number i.numbers j) made ≡ a → (b : Bool) → list_any (λ (i : Island). has_number i.numbers j) others ≡ b → (a || b) ≡ true
        by true a_is b b_is = refl
        by false a_is true b_is = refl
        by false a_is false b_is =
            absurd
            (true≢false
            (sym (sym (number_of_all found j) ∙ islands_have_awake s before commanded count j within awake)
            ∙ any_parted (λ (i : Island). has_number i.numbers j) (is_made lone) found a_is b_is))
