-- Each body and each contact that is simulated is in exactly one island, and nothing else is.
use Rattle.std.proofs.Common.{◌≡◌, ◌∙◌, ◌↔◌, ℕ, zero, suc, ◌+◌, ◌<◌, ◌≤◌, ◌==◌, true, false, List, [], ◌∷◌, Some, length, map, filter, option_map, get_or, cond, refl, sym, ap, subst, arith, slice_get}
use Rattle.std.proofs.lemmas.Bool.{and_parts, eq-eqb, eqb-true, ne_eqb}
use Rattle.std.proofs.lemmas.List.{length-map}
use Rattle.std.proofs.lemmas.List.Elements.{All-filter, All-map, All-weaker}
use Rattle.std.proofs.lemmas.Option.{get_or_from_slice_get, same_Some, slice_get-get_or, slice_get-map, slice_get_within}
use Rattle.std.proofs.lemmas.Simd.{map-map}
use Rattle.std.proofs.lemmas.Slice.Zip.{length-zip}
use Rattle.std.specs.List.{range_with_len, zip}
use Rattle.std.specs.Prelude.{All}
use Rattle.pf_shapes.specs.Body.{BodyState, no_state}
use Rattle.pf_shapes.specs.Scene.{Scene}
use Rattle.pf_manifold.specs.Key.{AreTouches, IsRising}
use Rattle.pf_manifold.specs.Touches.{IsTouchOf, Touch}
use Rattle.pf_cache.specs.Contact.{Contact}
use Rattle.pf_rows.specs.Row.{AreRows, Row}
use Rattle.pf_islands.specs.Dealing.{group_of_row, island_place}
use Rattle.pf_islands.specs.Group.{group, groups}
use Rattle.pf_islands.specs.Island.{group_members, rows_among, states_of, touches_one}
use Rattle.pf_islands.specs.Laws.{HasBody, HasRow, active_bodies, islands_of, rows_of}
use Rattle.pf_islands.specs.Reach.{Reaches}
use Rattle.pf_islands.specs.Rows.{is_awake_at}
use Rattle.pf_islands.specs.Sleep.{woken_bodies}
use Rattle.pf_islands.specs.Split.{AreWoken, IsActiveRow, Island, active_labels, is_active_label, island_of}
use Rattle.pf_islands.proofs.ActiveRows.{map_where, rows_in_order}
use Rattle.pf_islands.proofs.Chains.{one_name, reaches_one}
use Rattle.pf_islands.proofs.Filled.{group_active, name_at, touches_group}
use Rattle.pf_islands.proofs.Elements.{all_at, mapped}
use Rattle.pf_cache.proofs.ChosenNumbers.{chosen_pass, range_within}
use Rattle.pf_islands.proofs.Members.{chosen_at, filter_rises, range_rises}
use Rattle.pf_islands.proofs.Starting.{group_low, groups_long, groups_named}
use Rattle.pf_islands.proofs.Together.{groups_woken, name_of, rows_are_active}
use Rattle.pf_islands.proofs.Whole.{rows_in_order_among}
use Rattle.pf_islands.proofs.PutBack.{rising_at}

-- what stands at two places of rising numbers is different
rising_once : (least : ℕ) (ns : List ℕ) (k l n : ℕ) → IsRising least ns → slice_get ns k ≡ Some n → slice_get ns l ≡ Some n
    → k ≡ l
rising_once least [] k l n rising here there = absurd cc
rising_once least (x ∷ ns) zero zero n rising here there = refl
rising_once least (x ∷ ns) zero (suc l) n rising here there =
    let is : x ≡ n = same_Some x n here in
    absurd (omega (arith, is, rising_at (suc x) ns l n rising.1 there))
rising_once least (x ∷ ns) (suc k) zero n rising here there =
    let is : x ≡ n = same_Some x n there in
    absurd (omega (arith, is, rising_at (suc x) ns k n rising.1 here))
rising_once least (x ∷ ns) (suc k) (suc l) n rising here there = ap suc (rising_once (suc x) ns k l n rising.1 here there)

-- the phase Activity keeps each body
pub awake_long : (s : Scene) (touches : List Touch) (bodies : List BodyState) → length bodies ≡ length s.fixtures
    → length (active_bodies s touches bodies) ≡ length bodies
unfolding woken_bodies
awake_long s touches bodies count =
    length-map (zip (groups s touches) bodies) _
    ∙ length-zip (groups s touches) bodies ∙ omega (arith, count, groups_long s touches)

module _ (s : Scene) (touches : List Touch) (bodies : List BodyState) (contacts : List Contact) where
  abbrev labels : List ℕ
  labels = groups s touches

  abbrev awake : List BodyState
  awake = active_bodies s touches bodies

  abbrev rows : List Row
  rows = rows_of s touches bodies contacts

  abbrev island_named : ℕ → Island
  island_named label = island_of awake rows (group_members labels label)

  abbrev chosen : List ℕ
  chosen = active_labels labels awake

  chosen_rise : IsRising 0 chosen
  chosen_rise = filter_rises (is_active_label labels awake) 0 (range_with_len 0 (length labels)) (range_rises 0 (length labels))

  -- an island is that of a group that is simulated
  island_at : (k : ℕ) (i : Island) → slice_get (islands_of s touches bodies contacts) k ≡ Some i
      → (label : ℕ) × (slice_get chosen k ≡ Some label) × (island_named label ≡ i)
  island_at k i here = let is = mapped island_named chosen k i here in (is.from, is.is_there, is.value)

  -- the label is that of the group of each of its bodies
  named_body : (k n : ℕ) (b : BodyState) → HasBody (islands_of s touches bodies contacts) k n b
      → (label : ℕ) × (slice_get chosen k ≡ Some label) × (n < length labels) × (get_or labels n 0 ≡ label)
      × (b ≡ get_or awake n no_state)
  named_body k n b has =
      let at = island_at k has.island has.is_there in
      let numbers : slice_get (group_members labels at.0) has.place ≡ Some n =
      ap (λ (i : Island). slice_get i.numbers has.place) at.2 ∙ has.number in
      let state : slice_get (states_of (group_members labels at.0) awake) has.place ≡ Some b =
      ap (λ (i : Island). slice_get i.bodies has.place) at.2 ∙ has.state in
      let own = all_at (λ i. (get_or labels i 0 == at.0) ≡ true) (group_members labels at.0) has.place n
      (chosen_pass (λ i. get_or labels i 0 == at.0) (range_with_len 0 (length labels))) numbers in
      let within = all_at (λ i. i < length labels) (group_members labels at.0) has.place n
      (All-filter (λ i. get_or labels i 0 == at.0) (λ i. i < length labels) (range_with_len 0 (length labels))
      (range_within 0 (length labels) (length labels) (omega arith))) numbers in (
        at.0,
        at.1,
        within,
        eqb-true (get_or labels n 0) at.0 own,
        same_Some b (get_or awake n no_state)
            (sym state ∙ slice_get-map (λ m. get_or awake m no_state) (group_members labels at.0) has.place
            ∙ ap (option_map (λ m. get_or awake m no_state)) numbers),
      )

  module _ (count : length bodies ≡ length s.fixtures) where
    are_woken : AreWoken labels awake
    are_woken = groups_woken s touches bodies count

    -- nothing but bodies that are simulated
    pub bodies_simulated : (k n : ℕ) (b : BodyState) → length awake ≡ length bodies
        → HasBody (islands_of s touches bodies contacts) k n b
        → (slice_get awake n ≡ Some b) × (b.awake ≡ true)
    bodies_simulated k n b long has =
        let at = named_body k n b has in
        let active = all_at (λ m. is_active_label labels awake m ≡ true) chosen k at.0
        (chosen_pass (is_active_label labels awake) (range_with_len 0 (length labels))) at.1 in
        let wakes : is_awake_at awake n ≡ true =
        are_woken.whole n at.2 (ap (is_active_label labels awake) at.3 ∙ active) in (
          slice_get-get_or awake n no_state (omega (arith, at.2, long, count, groups_long s touches)) ∙ ap Some (sym at.4),
          ap (λ (x : BodyState). x.awake) at.4 ∙ wakes,
        )

    -- each of them
    pub simulated_bodies : (n : ℕ) (b : BodyState) → length awake ≡ length bodies → slice_get awake n ≡ Some b → b.awake ≡ true
        → (k : ℕ) × HasBody (islands_of s touches bodies contacts) k n b
    simulated_bodies n b long here wakes =
        let inside : n < length labels = omega (arith, slice_get_within awake n b here, long, count, groups_long s touches) in
        let read = get_or_from_slice_get awake n b no_state here in
        let label = get_or labels n 0 in
        let active = are_woken.active n inside (ap (λ (x : BodyState). x.awake) read ∙ wakes) in
        let labelled = groups_named s touches n 0 inside in
        let from_zero : 0 + n ≡ n = omega arith in
        let own = λ (j : ℕ). get_or labels j 0 == label in
        let number : slice_get (group_members labels label) (length (filter own (range_with_len 0 n))) ≡ Some n =
        chosen_at own 0 (length labels) n inside (ap own from_zero ∙ eq-eqb label label refl) ∙ ap Some from_zero in (
          island_place labels awake label,
          record {
            island = island_named label;
            place = length (filter own (range_with_len 0 n));
            is_there = slice_get-map island_named chosen (island_place labels awake label)
                ∙ ap (option_map island_named) (name_at labels awake label labelled active);
            number = number;
            state = slice_get-map (λ m. get_or awake m no_state) (group_members labels label) _
                ∙ ap (option_map (λ m. get_or awake m no_state)) number ∙ ap Some read;
          },
        )

    -- two in one island exactly where one reaches the other
    pub bodies_together : (k l m n : ℕ) (b c : BodyState) → HasBody (islands_of s touches bodies contacts) k m b
        → HasBody (islands_of s touches bodies contacts) l n c → (k ≡ l) ↔ Reaches s touches m n
    bodies_together k l m n b c first second =
        let one = named_body k m b first in
        let two = named_body l n c second in
        let first_group : group s touches m ≡ one.0 =
        sym (name_of s touches m (omega (arith, one.2, groups_long s touches))) ∙ one.3 in
        let second_group : group s touches n ≡ two.0 =
        sym (name_of s touches n (omega (arith, two.2, groups_long s touches))) ∙ two.3 in (
          λ same.
              reaches_one s touches m n
              (first_group
              ∙ same_Some one.0 two.0 (sym one.1 ∙ ap (slice_get chosen) same ∙ two.1)
              ∙ sym second_group),
          λ reach.
              rising_once 0 chosen k l one.0 chosen_rise one.1
              (two.1 ∙ ap Some (sym second_group ∙ sym (one_name s touches m n reach) ∙ first_group)),
        )

    -- ---- contacts

    module _ (of : All (IsTouchOf (length bodies)) touches) (long : length awake ≡ length bodies) where
      are_active : All (IsActiveRow labels awake) rows
      are_active =
          rows_are_active s touches awake contacts (long ∙ count) (subst (λ n. All (IsTouchOf n) touches) (sym long) of)

      -- a contact touches the island of its group
      row_named : (k : ℕ) (r : Row) → IsActiveRow labels awake r → HasRow (islands_of s touches bodies contacts) k r
          → slice_get chosen k ≡ Some (group_of_row labels r)
      row_named k r active has =
          let at = island_at k has.island has.is_there in
          let touched : touches_one (group_members labels at.0) r ≡ true =
          ap (λ (i : Island). touches_one i.numbers r) at.2 ∙ has.touched in
          at.1
          ∙ ap Some (sym (eqb-true (group_of_row labels r) at.0 (sym (touches_group labels awake at.0 r active) ∙ touched)))

      pub rows_whole : All (λ r. (k : ℕ) × HasRow (islands_of s touches bodies contacts) k r) rows
      rows_whole =
          All-weaker (IsActiveRow labels awake) (λ r. (k : ℕ) × HasRow (islands_of s touches bodies contacts) k r)
          (λ r active.
          let own = group_active labels awake r (groups_named s touches) are_woken active in
          let label = group_of_row labels r in (
            island_place labels awake label,
            record {
              island = island_named label;
              is_there = slice_get-map island_named chosen (island_place labels awake label)
                  ∙ ap (option_map island_named) (name_at labels awake label own.0 own.1);
              touched = touches_group labels awake label r active ∙ eq-eqb label label refl;
            },
          ))
          rows are_active

      pub rows_once : All (λ r. (k l : ℕ) → HasRow (islands_of s touches bodies contacts) k r
          → HasRow (islands_of s touches bodies contacts) l r → k ≡ l) rows
      rows_once =
          All-weaker (IsActiveRow labels awake)
          (λ r. (k l : ℕ) → HasRow (islands_of s touches bodies contacts) k r
          → HasRow (islands_of s touches bodies contacts) l r → k ≡ l)
          (λ r active k l first second.
          rising_once 0 chosen k l (group_of_row labels r) chosen_rise (row_named k r active first) (row_named l r active second))
          rows are_active

  -- the contacts of an island are those that touch its bodies
  pub rows_of_islands : All (λ (i : Island). i.rows ≡ rows_among i.numbers rows) (islands_of s touches bodies contacts)
  rows_of_islands =
      All-map (λ (i : Island). i.rows ≡ rows_among i.numbers rows) island_named chosen (λ k d within. refl)

  -- in the order of their keys
  pub rows_of_islands_rise : AreTouches touches → All (λ (i : Island). AreRows i.rows) (islands_of s touches bodies contacts)
  rows_of_islands_rise order =
      All-map (λ (i : Island). AreRows i.rows) island_named chosen
      (λ k d within.
      rows_in_order_among (group_members labels (get_or chosen k d)) rows (rows_in_order s awake touches contacts order))

  -- ---- order

  -- numbers ascend in each island
  pub numbers_rise : All (λ (i : Island). IsRising 0 i.numbers) (islands_of s touches bodies contacts)
  numbers_rise =
      All-map (λ (i : Island). IsRising 0 i.numbers) island_named chosen
      (λ k d within.
      filter_rises (λ i. get_or labels i 0 == get_or chosen k d) 0 (range_with_len 0 (length labels)) (range_rises 0 (length labels)))

  -- no body below a label is in its group
  none_below : (label start count : ℕ) → start + count ≤ label → label < length s.fixtures
      → filter (λ i. get_or labels i 0 == label) (range_with_len start count) ≡ []
  none_below label start zero low within = refl
  none_below label start (suc count) low within =
      ap (λ e. cond e (start ∷ rest) rest) apart ∙ none_below label (start + 1) count (omega (arith, low)) within
    where
      rest : List ℕ
      rest = filter (λ i. get_or labels i 0 == label) (range_with_len (start + 1) count)

      apart : (get_or labels start 0 == label) ≡ false
      apart =
          let small : start < length s.fixtures = omega (arith, low, within) in
          ne_eqb (get_or labels start 0) label
          (λ same. omega (arith, same, name_of s touches start small, group_low s touches start, low))

  -- so the least body of an island is the label of its group
  least_is : (label : ℕ) → label < length s.fixtures → is_active_label labels awake label ≡ true
      → get_or (group_members labels label) 0 0 ≡ label
  least_is label within active =
      let own = λ (i : ℕ). get_or labels i 0 == label in
      let from_zero : 0 + label ≡ label = omega arith in
      let is_own = (and_parts (own label) (is_awake_at awake label) active).0 in
      get_or_from_slice_get (group_members labels label) 0 label 0
      (ap (λ (ns : List ℕ). slice_get (group_members labels label) (length ns)) (sym (none_below label 0 label (omega arith) within))
      ∙ chosen_at own 0 (length labels) label (omega (arith, within, groups_long s touches)) (ap own from_zero ∙ is_own)
      ∙ ap Some from_zero)

  -- and the least bodies of islands ascend
  pub least_rise : IsRising 0 (map (λ (i : Island). get_or i.numbers 0 0) (islands_of s touches bodies contacts))
  least_rise =
      subst (IsRising 0)
      (sym (map-map (λ (i : Island). get_or i.numbers 0 0) island_named chosen
      ∙ map_where (λ label. (label < length labels) × (is_active_label labels awake label ≡ true))
      (λ label. get_or (group_members labels label) 0 0) (λ label. label)
      (λ label is. least_is label (omega (arith, is.0, groups_long s touches)) is.1) chosen
      (λ k d within. (
        All-filter (is_active_label labels awake) (λ i. i < length labels) (range_with_len 0 (length labels))
            (range_within 0 (length labels) (length labels) (omega arith)) k d within,
        chosen_pass (is_active_label labels awake) (range_with_len 0 (length labels)) k d within,
      ))
      ∙ map_self chosen))
      chosen_rise
    where
      map_self : (ns : List ℕ) → map (λ n. n) ns ≡ ns
      map_self [] = refl
      map_self (n ∷ ns) = ap (λ rest. n ∷ rest) (map_self ns)
