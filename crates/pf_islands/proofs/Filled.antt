-- Islands that are filled body by body, and contact by contact.
use borrow.Author.Count.{below_more}
use Rattle.std.proofs.Common.{◌≡◌, ◌∙◌, ℕ, ◌+◌, ◌<◌, ◌==◌, Bool, true, false, cond, List, [], ◌∷◌, ◌++◌, Some, length, filter, map, option_map, set, get_or, refl, sym, ap, ap₂, subst, arith, slice_get}
use Rattle.std.proofs.lemmas.Bool.{eq-eqb, eqb-true, false_from_ne_true, ne_eqb, true≢false}
use Rattle.std.proofs.lemmas.List.{append-nil, get_or-set_other, get_or-set_same, length-append, length-map, map-append}
use Rattle.std.proofs.lemmas.List.Elements.{filter-append}
use Rattle.std.proofs.lemmas.Option.{get_or_from_slice_get, slice_get-map, slice_get_within}
use Rattle.std.specs.List.{range_with_len}
use Rattle.std.specs.Prelude.{All, ◌&&◌, ◌||◌, if◌then◌else◌}
use Rattle.pf_shapes.specs.Body.{BodyState, no_state}
use Rattle.pf_manifold.specs.Key.{IsRising}
use Rattle.pf_rows.specs.declared.row.Side.{Side}
use Rattle.pf_rows.specs.declared.row.Side.TheVariants.{Static, Dynamic}
use Rattle.pf_rows.specs.Row.{IsSide, Row}
use Rattle.pf_islands.specs.Dealing.{ArePlaces, group_of_row, group_of_sides, island_place, placed_row, placed_side, with_island_body, with_row}
use Rattle.pf_islands.specs.Island.{has_number, is_among, group_members, place_of, row_among, rows_among, side_among, states_of, touches_one}
use Rattle.pf_islands.specs.Rows.{is_awake_at}
use Rattle.pf_islands.specs.Split.{AreTogether, AreWoken, IsActiveRow, Island, active_labels, is_active_label, is_awake_side, island_of, no_island}
use Rattle.pf_islands.proofs.ActiveRows.{map_where}
use Rattle.pf_cache.proofs.ChosenNumbers.{chosen_pass}
use Rattle.pf_islands.proofs.Members.{chosen_at, chosen_place, filter_rises, has_filter, has_range, range_more, range_rises, set_mapped}

module _ (labels : List ℕ) (bodies : List BodyState) where
  -- ---- empty islands

  -- so many islands are made as labels were met
  pub made_count : (k : ℕ) → length (map (λ (label : ℕ). no_island) (filter (is_active_label labels bodies) (range_with_len 0 k)))
      ≡ island_place labels bodies k
  made_count k = length-map (filter (is_active_label labels bodies) (range_with_len 0 k)) (λ (label : ℕ). no_island)

  -- one label more
  pub made_more : (k : ℕ) (e : Bool) → is_active_label labels bodies k ≡ e
      → map (λ (label : ℕ). no_island) (filter (is_active_label labels bodies) (range_with_len 0 (k + 1)))
      ≡ map (λ (label : ℕ). no_island) (filter (is_active_label labels bodies) (range_with_len 0 k)) ++ (if e then no_island ∷ [] else [])
  made_more k e is =
      let from_zero : 0 + k ≡ k = omega arith in
      ap (map (λ (label : ℕ). no_island))
      (range_more (is_active_label labels bodies) 0 k
      ∙ ap (λ t. filter (is_active_label labels bodies) (range_with_len 0 k) ++ cond t ((0 + k) ∷ []) [])
      (ap (is_active_label labels bodies) from_zero ∙ is))
      ∙ map-append (λ (label : ℕ). no_island) (filter (is_active_label labels bodies) (range_with_len 0 k)) (cond e ((0 + k) ∷ []) [])
      ∙ ap (λ xs. map (λ (label : ℕ). no_island) (filter (is_active_label labels bodies) (range_with_len 0 k)) ++ xs) (by e)
    where
      by : (t : Bool) → map (λ (label : ℕ). no_island) (cond t ((0 + k) ∷ []) []) ≡ (if t then no_island ∷ [] else [])
      by true = refl
      by false = refl

  pub island_place_more : (k : ℕ) (e : Bool) → is_active_label labels bodies k ≡ e
      → island_place labels bodies (k + 1) ≡ island_place labels bodies k + (if e then 1 else 0)
  island_place_more k e is =
      sym (made_count (k + 1)) ∙ ap length (made_more k e is)
      ∙ length-append (map (λ (label : ℕ). no_island) (filter (is_active_label labels bodies) (range_with_len 0 k))) (if e then no_island ∷ [] else [])
      ∙ ap₂ (λ m n. m + n) (made_count k) (by e)
    where
      by : (t : Bool) → length (if t then no_island ∷ [] else []) ≡ (if t then 1 else 0)
      by true = refl
      by false = refl

  -- ---- bodies

  -- the group_members of a group among the first k bodies
  abbrev pub first_members : ℕ → ℕ → List ℕ
  first_members k label = filter (λ j. get_or labels j 0 == label) (range_with_len 0 k)

  -- what an island has of the first k bodies
  abbrev pub first_part : ℕ → ℕ → Island
  first_part k label = record {
    numbers = first_members k label;
    bodies = states_of (first_members k label) bodies;
    rows = [];
  }

  members_more : (k label : ℕ) (e : Bool) → (get_or labels k 0 == label) ≡ e
      → first_members (k + 1) label ≡ first_members k label ++ (if e then k ∷ [] else [])
  members_more k label e is =
      let from_zero : 0 + k ≡ k = omega arith in
      range_more (λ j. get_or labels j 0 == label) 0 k
      ∙ ap₂ (λ t m. first_members k label ++ cond t (m ∷ []) []) (ap (λ j. get_or labels j 0 == label) from_zero ∙ is) from_zero

  -- a body of another group changes nothing
  part_same : (k label : ℕ) → (get_or labels k 0 == label) ≡ false → first_part k label ≡ first_part (k + 1) label
  part_same k label other =
      let same : first_members k label ≡ first_members (k + 1) label =
      sym (append-nil (first_members k label)) ∙ sym (members_more k label false other) in
      ap (λ (ns : List ℕ). record { numbers = ns; bodies = states_of ns bodies; rows = [] }) same

  -- a body of the group is added
  part_more : (k label : ℕ) (b : BodyState) → (get_or labels k 0 == label) ≡ true → b ≡ get_or bodies k no_state
      → with_island_body k b (first_part k label) ≡ first_part (k + 1) label
  part_more k label b own is =
      let more = members_more k label true own in
      ap₂ (λ (ns : List ℕ) (bs : List BodyState). record { numbers = ns; bodies = bs; rows = [] }) (sym more)
      (ap (λ x. states_of (first_members k label) bodies ++ x ∷ []) is
      ∙ sym (map-append (λ n. get_or bodies n no_state) (first_members k label) (k ∷ []))
      ∙ sym (ap (λ ns. states_of ns bodies) more))

  names_rise : IsRising 0 (active_labels labels bodies)
  names_rise =
      filter_rises (is_active_label labels bodies) 0 (range_with_len 0 (length labels)) (range_rises 0 (length labels))

  -- the island of a group that is simulated stands at its place
  pub name_at : (label : ℕ) → label < length labels → is_active_label labels bodies label ≡ true
      → slice_get (active_labels labels bodies) (island_place labels bodies label) ≡ Some label
  name_at label within active =
      let from_zero : 0 + label ≡ label = omega arith in
      chosen_at (is_active_label labels bodies) 0 (length labels) label within (ap (is_active_label labels bodies) from_zero ∙ active)
      ∙ ap Some from_zero

  -- and so its place is that of one of the islands
  pub island_place_within : {X : Type 0} (f : ℕ → X) (label : ℕ) → label < length labels → is_active_label labels bodies label ≡ true
      → island_place labels bodies label < length (map f (active_labels labels bodies))
  island_place_within f label within active =
      let inside = slice_get_within (active_labels labels bodies) (island_place labels bodies label) label (name_at label within active) in
      omega (arith, inside, length-map (active_labels labels bodies) f)

  -- what stands there
  pub island_at : (f : ℕ → Island) (label : ℕ) → label < length labels → is_active_label labels bodies label ≡ true
      → get_or (map f (active_labels labels bodies)) (island_place labels bodies label) no_island ≡ f label
  island_at f label within active =
      get_or_from_slice_get (map f (active_labels labels bodies)) (island_place labels bodies label) (f label) no_island
      (slice_get-map f (active_labels labels bodies) (island_place labels bodies label)
      ∙ ap (λ o. option_map f o) (name_at label within active))

  -- an awake body is dealt
  pub dealt_more : (k : ℕ) (b : BodyState) (now after : List Island) → k < length labels → get_or labels k 0 < length labels
      → AreWoken labels bodies → is_awake_at bodies k ≡ true → b ≡ get_or bodies k no_state
      → now ≡ map (first_part k) (active_labels labels bodies)
      → after ≡ set now (island_place labels bodies (get_or labels k 0))
      (with_island_body k b (get_or now (island_place labels bodies (get_or labels k 0)) no_island))
      → after ≡ map (first_part (k + 1)) (active_labels labels bodies)
  dealt_more k b now after inside within woken_bodies awake is now_is after_is =
      let label = get_or labels k 0 in
      let place = island_place labels bodies label in
      let active = woken_bodies.active k inside awake in
      after_is
      ∙ ap (λ xs. set xs place (with_island_body k b (get_or xs place no_island))) now_is
      ∙ set_mapped (first_part k) (first_part (k + 1)) 0 (active_labels labels bodies) place label _ names_rise
      (name_at label within active)
      (ap (with_island_body k b) (island_at (first_part k) label within active) ∙ part_more k label b (eq-eqb label label refl) is)
      (λ m apart. part_same k m (ne_eqb label m (λ same. apart (sym same))))

  -- a sleeping body is of no island
  pub dealt_same : (k : ℕ) (now : List Island) → k < length labels → AreWoken labels bodies → is_awake_at bodies k ≡ false
      → now ≡ map (first_part k) (active_labels labels bodies)
      → now ≡ map (first_part (k + 1)) (active_labels labels bodies)
  dealt_same k now inside woken_bodies asleep now_is =
      now_is
      ∙ map_where (λ label. is_active_label labels bodies label ≡ true) (first_part k) (first_part (k + 1))
      (λ label active.
      part_same k label (false_from_ne_true (get_or labels k 0 == label)
      (λ own.
      true≢false (sym (woken_bodies.whole k inside (ap (is_active_label labels bodies) (eqb-true (get_or labels k 0) label own) ∙ active)) ∙ asleep))))
      (active_labels labels bodies) (chosen_pass (is_active_label labels bodies) (range_with_len 0 (length labels)))

  -- the place of a body that is dealt
  pub dealt_place : (k : ℕ) → k < length labels
      → length (first_members k (get_or labels k 0)) ≡ place_of (group_members labels (get_or labels k 0)) k
  dealt_place k inside =
      let from_zero : 0 + k ≡ k = omega arith in
      let own = λ (j : ℕ). get_or labels j 0 == get_or labels k 0 in
      sym (chosen_place own 0 (length labels) k inside (ap own from_zero ∙ eq-eqb (get_or labels k 0) (get_or labels k 0) refl))
      ∙ ap (place_of (group_members labels (get_or labels k 0))) from_zero

  -- a body has the place of its group's island
  abbrev pub HasPlace : List ℕ → ℕ → Type 0
  HasPlace places i =
      is_awake_at bodies i ≡ true → get_or places i 0 ≡ place_of (group_members labels (get_or labels i 0)) i

  -- the place of one body more is noted
  pub placed_more : (k : ℕ) (old : List ℕ) (place : ℕ) → k < length labels → length old ≡ length labels
      → place ≡ length (first_members k (get_or labels k 0))
      → ((i : ℕ) → i < k → HasPlace old i) → (i : ℕ) → i < k + 1 → HasPlace (set old k place) i
  placed_more k old place inside long place_is before =
      below_more (HasPlace (set old k place)) k
      (λ i below awake. get_or-set_other old k i place 0 (λ same. omega (arith, same, below)) ∙ before i below awake)
      (λ awake. get_or-set_same old k place 0 (omega (arith, inside, long)) ∙ place_is ∙ dealt_place k inside)

  -- a sleeping body has none
  pub placed_same : (k : ℕ) (places : List ℕ) → is_awake_at bodies k ≡ false
      → ((i : ℕ) → i < k → HasPlace places i) → (i : ℕ) → i < k + 1 → HasPlace places i
  placed_same k places asleep before =
      below_more (HasPlace places) k before (λ awake. absurd (true≢false (sym awake ∙ asleep)))

-- ---- contacts

module _ (labels : List ℕ) (bodies : List BodyState) where
  -- the body on a side is in the group of this label
  abbrev side_in : ℕ → Side → Bool
  side_in label Static = false
  side_in label (Dynamic n) = get_or labels n 0 == label

  -- what an island has of all bodies and of these contacts
  abbrev pub full_part : List Row → ℕ → Island
  full_part rows label = island_of bodies rows (group_members labels label)

  -- a body is a member of the group of its label
  pub is_member : (label i : ℕ) → i < length labels → has_number (group_members labels label) i ≡ (get_or labels i 0 == label)
  is_member label i within =
      has_filter (λ k. get_or labels k 0 == label) (range_with_len 0 (length labels)) i
      ∙ ap (λ t. t && (get_or labels i 0 == label))
      (has_range 0 (length labels) i (omega arith) (omega (arith, within)))

  side_member : (label : ℕ) (side : Side) → IsSide (length labels) side
      → is_among (group_members labels label) side ≡ side_in label side
  side_member label Static is = refl
  side_member label (Dynamic n) is = is_member label n is

  -- a contact touches the bodies of its group alone
  pub touches_group : (label : ℕ) (r : Row) → IsActiveRow labels bodies r
      → touches_one (group_members labels label) r ≡ (group_of_row labels r == label)
  touches_group label r is =
      ap₂ (λ s t. s || t) (side_member label r.entry.first is.first) (side_member label r.entry.second is.second)
      ∙ by r.entry.first r.entry.second is.together is.active
    where
      same_or : (t : Bool) → (t || t) ≡ t
      same_or true = refl
      same_or false = refl

      or_false : (t : Bool) → (t || false) ≡ t
      or_false true = refl
      or_false false = refl

      by : (first second : Side) → AreTogether labels first second
          → (is_awake_side bodies first || is_awake_side bodies second) ≡ true
          → (side_in label first || side_in label second) ≡ (group_of_sides labels first second == label)
      by (Dynamic a) (Dynamic b) same active =
          ap (λ n. (get_or labels a 0 == label) || (n == label)) (sym same) ∙ same_or (get_or labels a 0 == label)
      by (Dynamic a) Static same active = or_false (get_or labels a 0 == label)
      by Static (Dynamic b) same active = refl
      by Static Static same active = absurd (true≢false (sym active))

  -- its group is simulated
  pub group_active : (r : Row) → All (λ label. label < length labels) labels → AreWoken labels bodies → IsActiveRow labels bodies r
      → (group_of_row labels r < length labels) × (is_active_label labels bodies (group_of_row labels r) ≡ true)
  group_active r labelled woken_bodies is = by r.entry.first r.entry.second is.first is.second is.together is.active
    where
      at : (n : ℕ) → n < length labels → is_awake_at bodies n ≡ true
          → (get_or labels n 0 < length labels) × (is_active_label labels bodies (get_or labels n 0) ≡ true)
      at n within awake = (labelled n 0 within, woken_bodies.active n within awake)

      by : (first second : Side) → IsSide (length labels) first → IsSide (length labels) second → AreTogether labels first second
          → (is_awake_side bodies first || is_awake_side bodies second) ≡ true
          → (group_of_sides labels first second < length labels)
          × (is_active_label labels bodies (group_of_sides labels first second) ≡ true)
      by (Dynamic a) (Dynamic b) one two same active = cases (is_awake_at bodies a) refl active
        where
          cases : (e : Bool) → is_awake_at bodies a ≡ e → (e || is_awake_at bodies b) ≡ true
              → (get_or labels a 0 < length labels) × (is_active_label labels bodies (get_or labels a 0) ≡ true)
          cases true e h = at a one e
          cases false e h =
              subst (λ n. (n < length labels) × (is_active_label labels bodies n ≡ true)) (sym same) (at b two h)
      by (Dynamic a) Static one two same active = at a one (or_left (is_awake_at bodies a) active)
        where
          or_left : (t : Bool) → (t || false) ≡ true → t ≡ true
          or_left true h = refl
          or_left false h = h
      by Static (Dynamic b) one two same active = at b two active
      by Static Static one two same active = absurd (true≢false (sym active))

  -- its sides have the places of their bodies in the island
  pub row_placed : (places : List ℕ) (r : Row) → All (λ label. label < length labels) labels → AreWoken labels bodies
      → ArePlaces labels bodies places → IsActiveRow labels bodies r
      → placed_row places r ≡ row_among (group_members labels (group_of_row labels r)) r
  row_placed places r labelled woken_bodies noted is =
      let active = (group_active r labelled woken_bodies is).1 in
      let sides = by r.entry.first r.entry.second is.first is.second is.together active in
      ap₂ (λ (f s : Side). record r { entry = record r.entry { first = f; second = s } }) sides.0 sides.1
    where
      at : (n label : ℕ) → n < length labels → get_or labels n 0 ≡ label → is_active_label labels bodies label ≡ true
          → placed_side places (Dynamic n) ≡ side_among (group_members labels label) (Dynamic n)
      at n label within same active =
          ap (λ k. Dynamic k)
          (noted n within (woken_bodies.whole n within (ap (is_active_label labels bodies) same ∙ active))
          ∙ ap (λ m. place_of (group_members labels m) n) same)

      by : (first second : Side) → IsSide (length labels) first → IsSide (length labels) second → AreTogether labels first second
          → is_active_label labels bodies (group_of_sides labels first second) ≡ true
          → (placed_side places first ≡ side_among (group_members labels (group_of_sides labels first second)) first)
          × (placed_side places second ≡ side_among (group_members labels (group_of_sides labels first second)) second)
      by (Dynamic a) (Dynamic b) one two same active =
          (at a (get_or labels a 0) one refl active, at b (get_or labels a 0) two (sym same) active)
      by (Dynamic a) Static one two same active = (at a (get_or labels a 0) one refl active, refl)
      by Static (Dynamic b) one two same active = (refl, at b (get_or labels b 0) two refl active)
      by Static Static one two same active = (refl, refl)

  -- one contact more
  rows_more : (rows : List Row) (r : Row) (numbers : List ℕ) (e : Bool) → touches_one numbers r ≡ e
      → rows_among numbers (rows ++ r ∷ []) ≡ rows_among numbers rows ++ (if e then row_among numbers r ∷ [] else [])
  rows_more rows r numbers e test =
      ap (map (row_among numbers)) (filter-append (touches_one numbers) rows (r ∷ []))
      ∙ map-append (row_among numbers) (filter (touches_one numbers) rows) (filter (touches_one numbers) (r ∷ []))
      ∙ ap (λ xs. rows_among numbers rows ++ xs)
      (ap (λ t. map (row_among numbers) (cond t (r ∷ []) [])) test ∙ by e)
    where
      by : (t : Bool) → map (row_among numbers) (cond t (r ∷ []) []) ≡ (if t then row_among numbers r ∷ [] else [])
      by true = refl
      by false = refl

  -- a contact is dealt
  pub row_dealt : (rows : List Row) (r : Row) (places : List ℕ) (now after : List Island)
      → All (λ label. label < length labels) labels → AreWoken labels bodies → ArePlaces labels bodies places
      → IsActiveRow labels bodies r → now ≡ map (full_part rows) (active_labels labels bodies)
      → after ≡ set now (island_place labels bodies (group_of_row labels r))
      (with_row (placed_row places r) (get_or now (island_place labels bodies (group_of_row labels r)) no_island))
      → after ≡ map (full_part (rows ++ r ∷ [])) (active_labels labels bodies)
  row_dealt rows r places now after labelled woken_bodies noted active now_is after_is =
      let label = group_of_row labels r in
      let place = island_place labels bodies label in
      let own = group_active r labelled woken_bodies active in
      after_is
      ∙ ap (λ xs. set xs place (with_row (placed_row places r) (get_or xs place no_island))) now_is
      ∙ set_mapped (full_part rows) (full_part (rows ++ r ∷ [])) 0 (active_labels labels bodies) place label _
      (names_rise labels bodies) (name_at labels bodies label own.0 own.1)
      (ap₂ with_row (row_placed places r labelled woken_bodies noted active) (island_at labels bodies (full_part rows) label own.0 own.1)
      ∙ ap (λ (rs : List Row). record (full_part rows label) { rows = rs })
      (sym (rows_more rows r (group_members labels label) true (touches_group label r active ∙ eq-eqb label label refl))))
      (λ m apart.
      ap (λ (rs : List Row). record (full_part rows m) { rows = rs })
      (sym (append-nil _)
      ∙ sym (rows_more rows r (group_members labels m) false (touches_group m r active ∙ ne_eqb label m (λ same. apart (sym same))))))
