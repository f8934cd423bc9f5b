-- Islands have all that is simulated, and nothing else.
use Rattle.std.proofs.Common.{◌≡◌, ◌∙◌, ◌⊎◌, inl, inr, ℕ, zero, suc, ◌<◌, ◌==◌, Bool, true, false, ◌||◌, List, [], ◌∷◌, Some, length, map, filter, get_or, cond, refl, sym, ap, subst, arith, slice_get, if◌then◌else◌}
use Rattle.std.proofs.lemmas.Bool.{eq-eqb, or_left, or_right, true≢false}
use Rattle.std.proofs.lemmas.Bool.Decides.{Decides-eqb}
use Rattle.std.proofs.lemmas.List.{length-map}
use Rattle.std.proofs.lemmas.List.Elements.{All-filter, All-map, All-weaker}
use Rattle.std.proofs.lemmas.Option.{same_Some}
use Rattle.std.specs.List.{list_any, range_with_len}
use Rattle.std.specs.Prelude.{All}
use Rattle.pf_shapes.specs.Body.{BodyState}
use Rattle.pf_shapes.specs.Scene.{Scene}
use Rattle.pf_manifold.specs.Key.{IsKey, IsRising, key_of, rank}
use Rattle.pf_manifold.proofs.Rising.{rising-weaken}
use Rattle.pf_rows.specs.declared.row.Side.{Side}
use Rattle.pf_rows.specs.declared.row.Side.TheVariants.{Static, Dynamic}
use Rattle.pf_cache.specs.Contact.{Contact}
use Rattle.pf_rows.specs.Row.{AreApart, AreRows, IsSide, Row}
use Rattle.pf_cache.specs.ContactRows.{AreRowsAt, IsRowAt}
use Rattle.pf_islands.specs.Dealing.{group_of_row, group_of_sides}
use Rattle.pf_islands.specs.Island.{IsOwnOrOther, IsOwnSide, has_number, is_among, group_members, place_of, row_among, rows_among, side_among, states_of, touches_one}
use Rattle.pf_islands.specs.Join.{IsAtHome}
use Rattle.pf_islands.specs.Rows.{IsRowOf, is_awake_at}
use Rattle.pf_islands.specs.Split.{AreTogether, AreWoken, IsActiveRow, IsIslandOf, Island, active_labels, is_active_label, island_of, islands}
use Rattle.pf_islands.proofs.Filled.{group_active, is_member, name_at, touches_group}
use Rattle.pf_cache.proofs.ChosenNumbers.{chosen_pass, range_within}
use Rattle.pf_cache.proofs.Splicing.{all_unmap}

-- ---- places among numbers

-- a number has a place
place_within : (numbers : List ℕ) (n : ℕ) → has_number numbers n ≡ true → place_of numbers n < length numbers
place_within [] n has = absurd (true≢false (sym has))
place_within (m ∷ numbers) n has = by (m == n) (place_within numbers n) has
  where
    by : (e : Bool) → (has_number numbers n ≡ true → place_of numbers n < length numbers)
        → (e || has_number numbers n) ≡ true → (if e then 0 else suc (place_of numbers n)) < suc (length numbers)
    by true rest h = omega arith
    by false rest h = omega (arith, rest h)

-- and no other number has it
place_apart : (numbers : List ℕ) (a b : ℕ) → has_number numbers a ≡ true → has_number numbers b ≡ true
    → place_of numbers a ≡ place_of numbers b → a ≡ b
place_apart [] a b has_a has_b same = absurd (true≢false (sym has_a))
place_apart (m ∷ numbers) a b has_a has_b same =
    by (m == a) refl (m == b) refl (place_apart numbers a b) has_a has_b same
  where
    by : (d : Bool) → (m == a) ≡ d → (e : Bool) → (m == b) ≡ e
        → (has_number numbers a ≡ true → has_number numbers b ≡ true → place_of numbers a ≡ place_of numbers b → a ≡ b)
        → (d || has_number numbers a) ≡ true → (e || has_number numbers b) ≡ true
        → (if d then 0 else suc (place_of numbers a)) ≡ (if e then 0 else suc (place_of numbers b)) → a ≡ b
    by true a_is true b_is rest h k s = sym ((Decides-eqb m a).0 a_is) ∙ (Decides-eqb m b).0 b_is
    by true a_is false b_is rest h k s = absurd (omega (arith, s))
    by false a_is true b_is rest h k s = absurd (omega (arith, s))
    by false a_is false b_is rest h k s = rest h k (omega (arith, s))

-- ---- rows of an island

-- a contact that fits the world fits an island of its bodies
row_fits_island : (s : Scene) (bodies : ℕ) (numbers : List ℕ) (r : Row) → IsRowOf s bodies r
    → IsOwnSide numbers r.entry.first → IsOwnSide numbers r.entry.second
    → IsRowOf s (length numbers) (row_among numbers r)
row_fits_island s bodies numbers r is first second = record {
  first = is.first;
  second = is.second;
  sides = record {
    first = within r.entry.first first;
    second = within r.entry.second second;
    apart = apart r.entry.first r.entry.second first second is.sides.apart;
  };
}
  where
    within : (side : Side) → IsOwnSide numbers side → IsSide (length numbers) (side_among numbers side)
    within Static own = tt
    within (Dynamic n) own = place_within numbers n own

    apart : (a b : Side) → IsOwnSide numbers a → IsOwnSide numbers b → AreApart a b
        → AreApart (side_among numbers a) (side_among numbers b)
    apart Static Static a_own b_own other = tt
    apart Static (Dynamic n) a_own b_own other = tt
    apart (Dynamic m) Static a_own b_own other = tt
    apart (Dynamic m) (Dynamic n) a_own b_own other = λ same. other (place_apart numbers m n a_own b_own same)

-- what holds of all rows of which both sides are an island's own
all_among : (P : Row → Type 0) (numbers : List ℕ) (rows : List Row) → All (IsOwnOrOther numbers) rows
    → All (λ r. IsOwnSide numbers r.entry.first → IsOwnSide numbers r.entry.second → P (row_among numbers r)) rows
    → All P (rows_among numbers rows)
all_among P numbers rows own each =
    All-map P (row_among numbers) (filter (touches_one numbers) rows)
    (λ k d within.
    let sides = All-filter (touches_one numbers) (IsOwnOrOther numbers) rows own k d within
    (chosen_pass (touches_one numbers) rows k d within) in
    All-filter (touches_one numbers) Each rows each k d within sides.0 sides.1)
  where
    Each : Row → Type 0
    Each r = IsOwnSide numbers r.entry.first → IsOwnSide numbers r.entry.second → P (row_among numbers r)

-- rows in the order of their keys, those that touch some bodies
pub rows_in_order_among : (numbers : List ℕ) (rows : List Row) → AreRows rows → AreRows (rows_among numbers rows)
rows_in_order_among numbers rows order = record {
  rising = rising 0 rows order.rising;
  keys = All-map (λ t. IsKey (key_of t)) (λ (r : Row). r.entry.touch) (rows_among numbers rows)
      (All-map (λ (r : Row). IsKey (key_of r.entry.touch)) (row_among numbers) (filter (touches_one numbers) rows)
      (All-filter (touches_one numbers) (λ (r : Row). IsKey (key_of r.entry.touch)) rows
      (all_unmap (λ t. IsKey (key_of t)) (λ (r : Row). r.entry.touch) rows order.keys)));
}
  where
    ranks : List Row → List ℕ
    ranks rs = map (λ t. rank (key_of t)) (map (λ (r : Row). r.entry.touch) rs)

    rising : (least : ℕ) (rs : List Row) → IsRising least (ranks rs) → IsRising least (ranks (rows_among numbers rs))
    rising least [] h = tt
    rising least (r ∷ rs) h = by (touches_one numbers r) (rising (suc (rank (key_of r.entry.touch))) rs h.1)
      where
        by : (e : Bool) → IsRising (suc (rank (key_of r.entry.touch))) (ranks (rows_among numbers rs))
            → IsRising least
            (ranks (map (row_among numbers) (cond e (r ∷ filter (touches_one numbers) rs) (filter (touches_one numbers) rs))))
        by true rest = (h.0, rest)
        by false rest =
            let low = h.0 in
            rising-weaken least (suc (rank (key_of r.entry.touch))) (ranks (rows_among numbers rs)) (omega (arith, low)) rest

-- rows at contacts, those that touch some bodies
rows_among_at : (contacts : List Contact) (numbers : List ℕ) (rows : List Row) → AreRowsAt contacts rows
    → AreRowsAt contacts (rows_among numbers rows)
rows_among_at contacts numbers rows are = record {
  order = rows_in_order_among numbers rows are.order;
  places = All-map (IsRowAt contacts) (row_among numbers) (filter (touches_one numbers) rows)
      (All-filter (touches_one numbers) (λ (r : Row). IsRowAt contacts (row_among numbers r)) rows
      (All-weaker (IsRowAt contacts) (λ r. IsRowAt contacts (row_among numbers r))
      (λ r is. record { within = is.within; key = is.key }) rows are.places));
}

-- ---- the islands of a tick

module _ (labels : List ℕ) (bodies : List BodyState) where
  -- a contact touches the bodies of one group alone
  pub own_or_other : (label : ℕ) (r : Row) → IsActiveRow labels bodies r → IsOwnOrOther (group_members labels label) r
  own_or_other label r is = by r.entry.first r.entry.second is.first is.second is.together
    where
      left : (x : Bool) → (x || false) ≡ true → x ≡ true
      left true h = refl
      left false h = h

      both : (x y : Bool) → x ≡ y → (x || y) ≡ true → (x ≡ true) × (y ≡ true)
      both true y same h = (refl, sym same)
      both false y same h = absurd (true≢false (sym h ∙ sym same))

      by : (first second : Side) → IsSide (length labels) first → IsSide (length labels) second
          → AreTogether labels first second
          → (is_among (group_members labels label) first || is_among (group_members labels label) second) ≡ true
          → IsOwnSide (group_members labels label) first × IsOwnSide (group_members labels label) second
      by Static Static one two same h = (tt, tt)
      by Static (Dynamic b) one two same h = (tt, h)
      by (Dynamic a) Static one two same h = (left (has_number (group_members labels label) a) h, tt)
      by (Dynamic a) (Dynamic b) one two same h =
          both (has_number (group_members labels label) a) (has_number (group_members labels label) b)
          (is_member labels bodies label a one ∙ ap (λ n. n == label) same ∙ sym (is_member labels bodies label b two)) h

  -- a dynamic body of a contact that is simulated is awake
  pub sides_awake : (r : Row) → All (λ label. label < length labels) labels → AreWoken labels bodies → IsActiveRow labels bodies r
      → (j : ℕ) → (r.entry.first ≡ Dynamic j) ⊎ (r.entry.second ≡ Dynamic j) → is_awake_at bodies j ≡ true
  sides_awake r labelled woken_bodies is j =
      by r.entry.first r.entry.second is.first is.second is.together (group_active labels bodies r labelled woken_bodies is).1
    where
      at : (n label : ℕ) → n < length labels → get_or labels n 0 ≡ label → is_active_label labels bodies label ≡ true
          → Dynamic n ≡ Dynamic j → is_awake_at bodies j ≡ true
      at n label within same active here =
          let is_j : n ≡ j = cc in
          subst (λ i. is_awake_at bodies i ≡ true) is_j
          (woken_bodies.whole n within (ap (is_active_label labels bodies) same ∙ active))

      by : (first second : Side) → IsSide (length labels) first → IsSide (length labels) second
          → AreTogether labels first second → is_active_label labels bodies (group_of_sides labels first second) ≡ true
          → (first ≡ Dynamic j) ⊎ (second ≡ Dynamic j) → is_awake_at bodies j ≡ true
      by (Dynamic a) second one two same active (inl here) = at a (get_or labels a 0) one refl active here
      by (Dynamic a) (Dynamic b) one two same active (inr here) = at b (get_or labels a 0) two (sym same) active here
      by (Dynamic a) Static one two same active (inr here) = absurd cc
      by Static (Dynamic b) one two same active (inl here) = absurd cc
      by Static (Dynamic b) one two same active (inr here) = at b (get_or labels b 0) two refl active here
      by Static Static one two same active (inl here) = absurd cc
      by Static Static one two same active (inr here) = absurd cc

  -- group_members are bodies
  pub members_within : (label : ℕ) → All (λ n. n < length labels) (group_members labels label)
  members_within label =
      All-filter (λ i. get_or labels i 0 == label) (λ n. n < length labels) (range_with_len 0 (length labels))
      (range_within 0 (length labels) (length labels) (omega arith))

  module _ (rows : List Row) where
    abbrev island_named : ℕ → Island
    island_named label = island_of bodies rows (group_members labels label)

    -- each island fits the scene
    pub islands_fit : (s : Scene) → All (IsActiveRow labels bodies) rows → All (IsRowOf s (length bodies)) rows
        → All (IsIslandOf s) (islands labels bodies rows)
    islands_fit s active fits =
        All-map (IsIslandOf s) island_named (active_labels labels bodies)
        (λ k d within. fit (get_or (active_labels labels bodies) k d))
      where
        fit : (label : ℕ) → IsIslandOf s (island_named label)
        fit label =
            let numbers = group_members labels label in
            let long : length (states_of numbers bodies) ≡ length numbers = length-map numbers _ in
            record {
              paired = long;
              rows = subst (λ n. All (IsRowOf s n) (rows_among numbers rows)) (sym long)
                  (all_among (IsRowOf s (length numbers)) numbers rows
                  (All-weaker (IsActiveRow labels bodies) (IsOwnOrOther numbers) (λ r is. own_or_other label r is) rows active)
                  (λ k d within first second.
                  row_fits_island s (length bodies) numbers (get_or rows k d) (fits k d within) first second));
            }

    -- each has its place in the world
    pub islands_at_home : All (IsAtHome (length labels)) (islands labels bodies rows)
    islands_at_home =
        All-map (IsAtHome (length labels)) island_named (active_labels labels bodies)
        (λ k d within. record {
          paired = length-map (group_members labels (get_or (active_labels labels bodies) k d)) _;
          within = members_within (get_or (active_labels labels bodies) k d);
        })

    -- and its contacts have theirs
    pub islands_at_contacts : (contacts : List Contact) → AreRowsAt contacts rows
        → All (λ (i : Island). AreRowsAt contacts i.rows) (islands labels bodies rows)
    islands_at_contacts contacts are =
        All-map (λ (i : Island). AreRowsAt contacts i.rows) island_named (active_labels labels bodies)
        (λ k d within. rows_among_at contacts (group_members labels (get_or (active_labels labels bodies) k d)) rows are)

    -- the group of this label has an island
    any_island : (q : Island → Bool) (label : ℕ) → label < length labels → is_active_label labels bodies label ≡ true
        → q (island_named label) ≡ true → list_any q (islands labels bodies rows) ≡ true
    any_island q label within active passes =
        any_named (active_labels labels bodies) (length (filter (is_active_label labels bodies) (range_with_len 0 label)))
        (name_at labels bodies label within active)
      where
        any_named : (ns : List ℕ) (k : ℕ) → slice_get ns k ≡ Some label → list_any q (map island_named ns) ≡ true
        any_named [] k here = absurd cc
        any_named (n ∷ ns) zero here =
            or_left (q (island_named n)) (list_any q (map island_named ns))
            (ap (λ m. q (island_named m)) (same_Some n label here) ∙ passes)
        any_named (n ∷ ns) (suc k) here =
            or_right (q (island_named n)) (list_any q (map island_named ns)) (any_named ns k here)

    -- each awake body is in an island
    pub body_has_island : (j : ℕ) → j < length labels → All (λ label. label < length labels) labels → AreWoken labels bodies
        → is_awake_at bodies j ≡ true
        → list_any (λ (i : Island). has_number i.numbers j) (islands labels bodies rows) ≡ true
    body_has_island j within labelled woken_bodies awake =
        any_island (λ i. has_number i.numbers j) (get_or labels j 0) (labelled j 0 within) (woken_bodies.active j within awake)
        (is_member labels bodies (get_or labels j 0) j within ∙ eq-eqb (get_or labels j 0) (get_or labels j 0) refl)

    -- and so is each contact that is simulated
    pub row_has_island : (r : Row) → All (λ label. label < length labels) labels → AreWoken labels bodies
        → IsActiveRow labels bodies r
        → list_any (λ (i : Island). touches_one i.numbers r) (islands labels bodies rows) ≡ true
    row_has_island r labelled woken_bodies active =
        let group = group_active labels bodies r labelled woken_bodies active in
        any_island (λ i. touches_one i.numbers r) (group_of_row labels r) group.0 group.1
        (touches_group labels bodies (group_of_row labels r) r active
        ∙ eq-eqb (group_of_row labels r) (group_of_row labels r) refl)
