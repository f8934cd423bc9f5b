-- Bodies that no contact touches, which go into no island: what is left are the islands of the other
-- groups, as if only the bodies of those were awake.
use Rattle.std.proofs.Common.{◌≡◌, ◌∙◌, ⊎_elim, ℕ, ◌+◌, ◌<◌, ◌==◌, Bool, true, false, not, ◌&&◌, ◌||◌, cond, List, [], ◌∷◌, ◌++◌, filter, get_or, length, map, refl, sym, ap, ap₂, arith}
use Rattle.std.proofs.lemmas.Bool.{and_from, and_parts, cases_lt, eqb-true}
use Rattle.std.proofs.lemmas.List.{get_or-map, length-map}
use Rattle.std.proofs.lemmas.List.FromFn.{get_or-enumerate_from, length-enumerate_from}
use Rattle.std.proofs.Math.ListN.{get_or-eq_default}
use Rattle.std.proofs.lemmas.List.Elements.{All-filter, All-head, All-tail, All-weaker}
use Rattle.std.specs.List.{enumerate_from, flat_map, list_any, range_with_len}
use Rattle.std.specs.Prelude.{All}
use Rattle.pf_shapes.specs.Body.{BodyState, no_state}
use Rattle.pf_rows.specs.Row.{Row}
use Rattle.pf_islands.specs.Dealing.{group_of_row}
use Rattle.pf_islands.specs.Flags.{awake_numbers}
use Rattle.pf_islands.specs.Island.{has_number, group_members, row_among, rows_among, states_of, touches_one}
use Rattle.pf_islands.specs.Lone.{AreSomeAwake, has_rows, is_touched, only_awake}
use Rattle.pf_islands.specs.Rows.{is_awake_at}
use Rattle.pf_islands.specs.Split.{AreWoken, IsActiveRow, Island, active_labels, is_active_label, island_of, islands}
use Rattle.pf_cache.proofs.ChosenNumbers.{chosen_pass, range_within}
use Rattle.pf_islands.proofs.Filled.{touches_group}
use Rattle.pf_islands.proofs.Listed.{awake_there}
use Rattle.pf_islands.proofs.Members.{has_filter, has_range}
use Rattle.pf_islands.proofs.SettledGroups.{filter_same}
use Rattle.pf_cache.proofs.Updating.{map_same}

-- ---- chosen elements

-- of what is made of elements those are chosen that are made of chosen ones
filter_map_is : {X Y : Type 0} (p : Y → Bool) (f : X → Y) (xs : List X) → filter p (map f xs) ≡ map f (filter (λ x. p (f x)) xs)
filter_map_is p f [] = refl
filter_map_is p f (x ∷ xs) = by (p (f x)) (filter_map_is p f xs)
  where
    by : (e : Bool) → filter p (map f xs) ≡ map f (filter (λ y. p (f y)) xs)
        → cond e (f x ∷ filter p (map f xs)) (filter p (map f xs))
        ≡ map f (cond e (x ∷ filter (λ y. p (f y)) xs) (filter (λ y. p (f y)) xs))
    by true rest = ap (λ ys. f x ∷ ys) rest
    by false rest = rest

-- to choose twice is to choose by both tests
pub filter_twice : {X : Type 0} (p q : X → Bool) (xs : List X) → filter q (filter p xs) ≡ filter (λ x. p x && q x) xs
filter_twice p q [] = refl
filter_twice p q (x ∷ xs) = by (p x) (filter_twice p q xs)
  where
    by : (e : Bool) → filter q (filter p xs) ≡ filter (λ y. p y && q y) xs
        → filter q (cond e (x ∷ filter p xs) (filter p xs))
        ≡ cond (e && q x) (x ∷ filter (λ y. p y && q y) xs) (filter (λ y. p y && q y) xs)
    by true rest = ap (λ ys. cond (q x) (x ∷ ys) ys) rest
    by false rest = rest

-- a chosen element stands where one passes
any_chosen : {X Y : Type 0} (p : X → Bool) (f : X → Y) (xs : List X) → list_any (λ y. true) (map f (filter p xs)) ≡ list_any p xs
any_chosen p f [] = refl
any_chosen p f (x ∷ xs) = by (p x) (any_chosen p f xs)
  where
    by : (e : Bool) → list_any (λ y. true) (map f (filter p xs)) ≡ list_any p xs
        → list_any (λ y. true) (map f (cond e (x ∷ filter p xs) (filter p xs))) ≡ (e || list_any p xs)
    by true rest = refl
    by false rest = rest

any_same : {X : Type 0} (p q : X → Bool) (xs : List X) → All (λ x. p x ≡ q x) xs → list_any p xs ≡ list_any q xs
any_same p q [] all = refl
any_same p q (x ∷ xs) all =
    ap₂ (λ a b. a || b) (All-head (λ y. p y ≡ q y) x xs all) (any_same p q xs (All-tail (λ y. p y ≡ q y) x xs all))

has_rows_is : (rows : List Row) → has_rows rows ≡ list_any (λ r. true) rows
has_rows_is [] = refl
has_rows_is (r ∷ rows) = refl

-- ---- the islands of groups with contacts

module _ (labels : List ℕ) (bodies : List BodyState) (rows : List Row)
    (active : All (IsActiveRow labels bodies) rows) where
  abbrev island_named : ℕ → Island
  island_named label = island_of bodies rows (group_members labels label)

  abbrev pub group_has_rows : ℕ → Bool
  group_has_rows label = list_any (λ r. group_of_row labels r == label) rows

  -- the island of a group has a contact where a contact is of the group
  pub touched_named : (label : ℕ) → is_touched (island_named label) ≡ group_has_rows label
  touched_named label =
      has_rows_is (island_named label).rows
      ∙ any_chosen (touches_one (group_members labels label)) (row_among (group_members labels label)) rows
      ∙ any_same (touches_one (group_members labels label)) (λ r. group_of_row labels r == label) rows
      (All-weaker (IsActiveRow labels bodies)
      (λ r. touches_one (group_members labels label) r ≡ (group_of_row labels r == label))
      (λ r is. touches_group labels bodies label r is) rows active)

  -- so these islands are those of some labels
  pub touched_islands : (q : ℕ → Bool) → All (λ label. q label ≡ group_has_rows label) (active_labels labels bodies)
      → filter is_touched (islands labels bodies rows) ≡ map island_named (filter q (active_labels labels bodies))
  touched_islands q are =
      filter_map_is is_touched island_named (active_labels labels bodies)
      ∙ ap (map island_named)
      (filter_same (λ label. is_touched (island_named label)) q (active_labels labels bodies)
      (All-weaker (λ label. q label ≡ group_has_rows label) (λ label. is_touched (island_named label) ≡ q label)
      (λ label is. touched_named label ∙ sym is) (active_labels labels bodies) are))

  -- and the bodies of the others are those of the other labels
  pub lone_numbers_are : (q : ℕ → Bool) → All (λ label. q label ≡ group_has_rows label) (active_labels labels bodies)
      → flat_map (λ (i : Island). i.numbers) (filter (λ i. not (is_touched i)) (islands labels bodies rows))
      ≡ flat_map (group_members labels) (filter (λ label. not (q label)) (active_labels labels bodies))
  lone_numbers_are q are =
      ap (flat_map (λ (i : Island). i.numbers))
      (filter_map_is (λ (i : Island). not (is_touched i)) island_named (active_labels labels bodies)
      ∙ ap (map island_named)
      (filter_same (λ label. not (is_touched (island_named label))) (λ label. not (q label)) (active_labels labels bodies)
      (All-weaker (λ label. q label ≡ group_has_rows label)
      (λ label. not (is_touched (island_named label)) ≡ not (q label))
      (λ label is. ap not (touched_named label ∙ sym is)) (active_labels labels bodies) are)))
      ∙ flat_mapped (filter (λ label. not (q label)) (active_labels labels bodies))
    where
      flat_mapped : (ns : List ℕ) → flat_map (λ (i : Island). i.numbers) (map island_named ns) ≡ flat_map (group_members labels) ns
      flat_mapped [] = refl
      flat_mapped (n ∷ ns) = ap (λ xs. group_members labels n ++ xs) (flat_mapped ns)

-- ---- the bodies, as if only those of these groups were awake

module _ (labels : List ℕ) (bodies : List BodyState) (q : ℕ → Bool) (numbers : List ℕ)
    (are : numbers ≡ filter (λ n. q (get_or labels n 0)) (awake_numbers bodies)) where
  abbrev seen : List BodyState
  seen = only_awake numbers bodies

  seen_long : length seen ≡ length bodies
  seen_long = length-map (enumerate_from 0 bodies) _ ∙ length-enumerate_from 0 bodies

  -- a body as it is seen
  seen_at : (k : ℕ) → k < length bodies
      → get_or seen k no_state ≡ record (get_or bodies k no_state) { awake = has_number numbers k }
  seen_at k within =
      let from_zero : 0 + k ≡ k = omega arith in
      let long = length-enumerate_from 0 bodies in
      get_or-map one (enumerate_from 0 bodies) k (0, no_state) no_state (omega (arith, within, long))
      ∙ ap one (get_or-enumerate_from 0 bodies k (0, no_state) within)
      ∙ ap (λ n. one (n, get_or bodies k no_state)) from_zero
    where
      one : ℕ × BodyState → BodyState
      one m = record m.1 { awake = has_number numbers m.0 }

  listed : (k : ℕ) → k < length bodies → has_number numbers k ≡ (is_awake_at bodies k && q (get_or labels k 0))
  listed k within =
      ap (λ ns. has_number ns k) are
      ∙ has_filter (λ n. q (get_or labels n 0)) (awake_numbers bodies) k
      ∙ ap (λ t. t && q (get_or labels k 0))
      (has_filter (is_awake_at bodies) (range_with_len 0 (length bodies)) k
      ∙ ap (λ t. t && is_awake_at bodies k) (has_range 0 (length bodies) k (omega arith) (omega (arith, within))))

  -- a body is seen awake where it is, and its group is one of these
  pub seen_awake : (k : ℕ) → is_awake_at seen k ≡ (is_awake_at bodies k && q (get_or labels k 0))
  seen_awake k =
      ⊎_elim
      (λ within. ap (λ (b : BodyState). b.awake) (seen_at k within) ∙ listed k within)
      (λ beyond.
      ap (λ (b : BodyState). b.awake) (get_or-eq_default seen no_state (omega (arith, beyond, seen_long)))
      ∙ ap (λ t. t && q (get_or labels k 0)) (sym (ap (λ (b : BodyState). b.awake) (get_or-eq_default bodies no_state beyond))))
      (cases_lt k (length bodies))

  seen_numbers : numbers ≡ awake_numbers seen
  seen_numbers =
      are ∙ filter_twice (is_awake_at bodies) (λ n. q (get_or labels n 0)) (range_with_len 0 (length bodies))
      ∙ filter_same (λ n. is_awake_at bodies n && q (get_or labels n 0)) (is_awake_at seen) (range_with_len 0 (length bodies))
      (λ i d within. sym (seen_awake (get_or (range_with_len 0 (length bodies)) i d)))
      ∙ ap (λ n. filter (is_awake_at seen) (range_with_len 0 n)) (sym seen_long)

  -- and then it is as it is
  seen_same : (k : ℕ) → is_awake_at seen k ≡ true → get_or bodies k no_state ≡ get_or seen k no_state
  seen_same k awake =
      let within : k < length bodies = omega (arith, awake_there seen k awake, seen_long) in
      let b = get_or bodies k no_state in
      let is : b.awake ≡ true = (and_parts (is_awake_at bodies k) (q (get_or labels k 0)) (sym (seen_awake k) ∙ awake)).0 in
      let also : has_number numbers k ≡ true = sym (ap (λ (x : BodyState). x.awake) (seen_at k within)) ∙ awake in
      ap (λ t. record b { awake = t }) (is ∙ sym also) ∙ sym (seen_at k within)

  pub seen_some : AreSomeAwake (length bodies) numbers bodies
  seen_some = record { as_many = seen_long; in_order = seen_numbers; states = seen_same }

  -- the labels of these groups
  pub seen_active : (k : ℕ) → is_active_label labels seen k ≡ (is_active_label labels bodies k && q k)
  seen_active k =
      ap (λ t. (get_or labels k 0 == k) && t) (seen_awake k)
      ∙ by (get_or labels k 0 == k) refl (is_awake_at bodies k)
    where
      by : (e : Bool) → (get_or labels k 0 == k) ≡ e → (a : Bool)
          → (e && (a && q (get_or labels k 0))) ≡ ((e && a) && q k)
      by true own a = ap (λ n. a && q n) (eqb-true (get_or labels k 0) k own)
      by false other a = refl

  pub seen_labels : active_labels labels seen ≡ filter q (active_labels labels bodies)
  seen_labels =
      filter_same (is_active_label labels seen) (λ k. is_active_label labels bodies k && q k) (range_with_len 0 (length labels))
      (λ i d within. seen_active (get_or (range_with_len 0 (length labels)) i d))
      ∙ sym (filter_twice (is_active_label labels bodies) q (range_with_len 0 (length labels)))

  -- their islands
  module _ (woken : AreWoken labels bodies) where
    seen_states : (label : ℕ) → is_active_label labels bodies label ≡ true → q label ≡ true
        → states_of (group_members labels label) seen ≡ states_of (group_members labels label) bodies
    seen_states label active chosen =
        map_same (λ n. get_or seen n no_state) (λ n. get_or bodies n no_state) (group_members labels label)
        (λ i d within.
        let k = get_or (group_members labels label) i d in
        let inside = All-filter (λ n. get_or labels n 0 == label) (λ n. n < length labels) (range_with_len 0 (length labels))
        (range_within 0 (length labels) (length labels) (omega arith)) i d within in
        let own : get_or labels k 0 ≡ label =
        eqb-true (get_or labels k 0) label
        (chosen_pass (λ n. get_or labels n 0 == label) (range_with_len 0 (length labels)) i d within) in
        let awake = woken.whole k inside (ap (is_active_label labels bodies) own ∙ active) in
        sym (seen_same k (seen_awake k ∙ and_from _ _ awake (ap q own ∙ chosen))))

    pub seen_islands : (rows : List Row)
        → islands labels seen rows
        ≡ map (λ label. island_of bodies rows (group_members labels label)) (filter q (active_labels labels bodies))
    seen_islands rows =
        ap (map (λ label. island_of seen rows (group_members labels label))) seen_labels
        ∙ map_same (λ label. island_of seen rows (group_members labels label)) (λ label. island_of bodies rows (group_members labels label))
        (filter q (active_labels labels bodies))
        (λ i d within.
        let label = get_or (filter q (active_labels labels bodies)) i d in
        let active = All-filter q (λ n. is_active_label labels bodies n ≡ true) (active_labels labels bodies)
        (chosen_pass (is_active_label labels bodies) (range_with_len 0 (length labels))) i d within in
        let chosen = chosen_pass q (active_labels labels bodies) i d within in
        ap (λ (bs : List BodyState). record { numbers = group_members labels label; bodies = bs; rows = rows_among (group_members labels label) rows })
        (seen_states label active chosen))
