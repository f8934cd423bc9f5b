-- Where no contact wakes a body, the groups of the contacts that are simulated are enough.
use Rattle.std.proofs.Common.{◌≡◌, ◌∙◌, ◌⊎◌, inl, inr, ⊎_elim, ℕ, ◌<◌, ◌==◌, Bool, true, false, not, ◌&&◌, ◌||◌, List, [], ◌∷◌, length, map, option_map, filter, get_or, cond, max, min, refl, sym, ap, ap₂, subst, arith}
use Rattle.std.proofs.lemmas.Bool.{and_from, and_parts, cases_lt, cond_both, cond-false, cond-true, eq-eqb, eqb-true, false_from_ne_true, ne_eqb, true≢false}
use Rattle.std.proofs.lemmas.List.{ext_get_or, length-map, nil_from_length}
use Rattle.std.proofs.lemmas.List.Elements.{All-cons, All-head, All-nil, All-tail, All-weaker}
use Rattle.std.proofs.lemmas.Option.{get_or_from_slice_get, slice_get-get_or, slice_get-map}
use Rattle.std.specs.List.{list_all, range_with_len, zip}
use Rattle.std.specs.Prelude.{All}
use Rattle.pf_shapes.specs.Body.{BodyState, no_state}
use Rattle.pf_shapes.specs.Scene.{Scene, is_static_at}
use Rattle.pf_manifold.specs.Touches.{IsTouchOf, Touch}
use Rattle.pf_rows.specs.declared.row.Side.{Side}
use Rattle.pf_rows.specs.declared.row.Side.TheVariants.{Static, Dynamic}
use Rattle.pf_rows.specs.Row.{IsSide, Row}
use Rattle.pf_cache.specs.Contact.{Contact}
use Rattle.pf_islands.specs.Flags.{awake_numbers}
use Rattle.pf_islands.specs.Group.{OthersAreAlone, group, groups, merged_label}
use Rattle.pf_islands.specs.Island.{group_members}
use Rattle.pf_islands.specs.Reach.{connects}
use Rattle.pf_islands.specs.Rows.{active_points, active_rows, is_active_contact, is_awake_at}
use Rattle.pf_islands.specs.Settled.{AreSettled, touches_of, wakes_none}
use Rattle.pf_islands.specs.Sleep.{is_active, woken_bodies}
use Rattle.pf_islands.specs.Splitting.{group_islands, point_islands}
use Rattle.pf_islands.specs.Split.{AreTogether, AreWoken, IsActiveRow, active_labels, is_active_label, island_of, islands}
use Rattle.pf_islands.proofs.ActiveRows.{map_where, row_at, touches_of_active}
use Rattle.pf_islands.proofs.Elements.{zip_at, zip_length}
use Rattle.pf_islands.proofs.Looked.{any_found, any_from}
use Rattle.pf_cache.proofs.ChosenNumbers.{chosen_pass, range_within}
use Rattle.pf_islands.proofs.Sleeping.{name_at, name_is}
use Rattle.pf_islands.proofs.Starting.{group_low, groups_long, groups_named}
use Rattle.pf_islands.proofs.Together.{groups_woken, name_of, one_group, rows_are_active, woken_at}
use Rattle.pf_islands.proofs.Whole.{sides_awake}

-- ---- merged labels

-- of two numbers with one mark the greater and the lesser have it
one_mark : (mark : ℕ → Bool) (e : Bool) (x y : ℕ) → mark x ≡ e → mark y ≡ e → (mark (max x y) ≡ e) × (mark (min x y) ≡ e)
one_mark mark e x y first second =
    ⊎_elim
    (λ less.
    let top : max x y ≡ y = omega (arith, less) in
    let low : min x y ≡ x = omega (arith, less) in
    (ap mark top ∙ second, ap mark low ∙ first))
    (λ more.
    let top : max x y ≡ x = omega (arith, more) in
    let low : min x y ≡ y = omega (arith, more) in
    (ap mark top ∙ first, ap mark low ∙ second))
    (cases_lt x y)

-- a merged label has the mark of the label
merged_mark : (mark : ℕ → Bool) (e : Bool) (x y label : ℕ) → mark x ≡ e → mark y ≡ e
    → mark (merged_label x y label) ≡ mark label
merged_mark mark e x y label first second =
    let both = one_mark mark e x y first second in
    cond_both (label == max x y) (min x y) label (λ n. mark n ≡ mark label)
    (λ same. both.1 ∙ sym both.0 ∙ sym (ap mark (eqb-true label (max x y) same)))
    (λ apart. refl)

-- a label with the other mark stays
merged_apart : (mark : ℕ → Bool) (e : Bool) (x y label : ℕ) → mark x ≡ e → mark y ≡ e → mark label ≡ not e
    → merged_label x y label ≡ label
merged_apart mark e x y label first second other =
    let both = one_mark mark e x y first second in
    cond-false (label == max x y) (min x y) label
    (ne_eqb label (max x y) (λ same. differ e (sym other ∙ ap mark same ∙ both.0)))
  where
    differ : (t : Bool) → not t ≡ t → ⊥
    differ true h = true≢false (sym h)
    differ false h = true≢false h

-- tests that agree choose the same
pub filter_same : {X : Type 0} (p q : X → Bool) (xs : List X) → All (λ x. p x ≡ q x) xs → filter p xs ≡ filter q xs
filter_same p q [] all = refl
filter_same p q (x ∷ xs) all =
    ap₂ (λ e rest. cond e (x ∷ rest) rest) (All-head (λ y. p y ≡ q y) x xs all)
    (filter_same p q xs (All-tail (λ y. p y ≡ q y) x xs all))

-- ---- the groups of settled bodies

module _ (s : Scene) (bodies : List BodyState) where
  abbrev awake : ℕ → Bool
  awake i = is_awake_at bodies i

  abbrev act : Touch → Bool
  act t = is_active_contact s bodies t

  -- both bodies of a contact that connects them are awake, or both asleep
  sides_alike : (t : Touch) → (act t ≡ true → wakes_none s bodies t ≡ true) → connects s t ≡ true
      → (awake t.a ≡ act t) × (awake t.b ≡ act t)
  unfolding is_active_contact
  sides_alike t none joins =
      by (is_static_at s t.a) (is_static_at s t.b) (awake t.a) (awake t.b) none joins
    where
      by : (c d x y : Bool)
          → (((not c && x) || (not d && y)) ≡ true → (not (not c && not d) || (x && y)) ≡ true)
          → (not c && not d) ≡ true
          → (x ≡ ((not c && x) || (not d && y))) × (y ≡ ((not c && x) || (not d && y)))
      by true d x y h j = absurd (true≢false (sym j))
      by false true x y h j = absurd (true≢false (sym j))
      by false false true true h j = (refl, refl)
      by false false true false h j = absurd (true≢false (sym (h refl)))
      by false false false true h j = absurd (true≢false (sym (h refl)))
      by false false false false h j = (refl, refl)

  -- an awake body has the label that it has by the contacts that are simulated; labels are awake
  -- where their bodies are; and by these contacts a body that is not awake is alone
  record AreAlike (touches : List Touch) : Type 0 where
    same : (i : ℕ) → awake i ≡ true → group s (filter act touches) i ≡ group s touches i
    alike : (i : ℕ) → awake (group s touches i) ≡ awake i
    alone : (i : ℕ) → awake i ≡ false → group s (filter act touches) i ≡ i

  module _ (t : Touch) (touches : List Touch) (before : AreAlike touches) where
    -- a contact that does not connect its bodies
    chosen_apart : connects s t ≡ false → (e : Bool) (i : ℕ)
        → group s (cond e (t ∷ filter act touches) (filter act touches)) i ≡ group s (filter act touches) i
    unfolding group
    chosen_apart apart true i = cond-false (connects s t) _ _ apart
    chosen_apart apart false i = refl

    all_apart : connects s t ≡ false → (i : ℕ) → group s (t ∷ touches) i ≡ group s touches i
    unfolding group
    all_apart apart i = cond-false (connects s t) _ _ apart

    -- and one that does
    chosen_joined : connects s t ≡ true → (i : ℕ)
        → group s (t ∷ filter act touches) i
        ≡ merged_label (group s (filter act touches) t.a) (group s (filter act touches) t.b) (group s (filter act touches) i)
    unfolding group
    chosen_joined joins i = cond-true (connects s t) _ _ joins

    all_joined : connects s t ≡ true → (i : ℕ)
        → group s (t ∷ touches) i ≡ merged_label (group s touches t.a) (group s touches t.b) (group s touches i)
    unfolding group
    all_joined joins i = cond-true (connects s t) _ _ joins

    -- one contact more
    alike_more : (act t ≡ true → wakes_none s bodies t ≡ true) → AreAlike (t ∷ touches)
    alike_more none = by (connects s t) refl (act t) refl
      where
        f : List Touch
        f = filter act touches

        unmet : connects s t ≡ false → AreAlike (t ∷ touches)
        unmet apart = record {
          same = λ i up. chosen_apart apart (act t) i ∙ before.same i up ∙ sym (all_apart apart i);
          alike = λ i. ap awake (all_apart apart i) ∙ before.alike i;
          alone = λ i down. chosen_apart apart (act t) i ∙ before.alone i down;
        }

        -- awake bodies are joined
        up_joined : connects s t ≡ true → act t ≡ true → AreAlike (t ∷ touches)
        up_joined joins up =
            let sides = sides_alike t none joins in
            let a_up : awake t.a ≡ true = sides.0 ∙ up in
            let b_up : awake t.b ≡ true = sides.1 ∙ up in
            let first : awake (group s touches t.a) ≡ true = before.alike t.a ∙ a_up in
            let second : awake (group s touches t.b) ≡ true = before.alike t.b ∙ b_up in
            let chosen = λ (i : ℕ). ap (λ e. group s (cond e (t ∷ filter act touches) (filter act touches)) i) up in
            record {
              same = λ i i_up.
                  chosen i ∙ chosen_joined joins i
                  ∙ ap₂ (λ x y. merged_label x y (group s (filter act touches) i)) (before.same t.a a_up) (before.same t.b b_up)
                  ∙ ap (merged_label (group s touches t.a) (group s touches t.b)) (before.same i i_up)
                  ∙ sym (all_joined joins i);
              alike = λ i.
                  ap awake (all_joined joins i)
                  ∙ merged_mark awake true (group s touches t.a) (group s touches t.b) (group s touches i) first second
                  ∙ before.alike i;
              alone = λ i i_down.
                  chosen i ∙ chosen_joined joins i
                  ∙ merged_apart awake true _ _ (group s (filter act touches) i)
                  (ap awake (before.same t.a a_up) ∙ first) (ap awake (before.same t.b b_up) ∙ second)
                  (ap awake (before.alone i i_down) ∙ i_down)
                  ∙ before.alone i i_down;
            }

        -- sleeping bodies are joined
        down_joined : connects s t ≡ true → act t ≡ false → AreAlike (t ∷ touches)
        down_joined joins down =
            let sides = sides_alike t none joins in
            let first : awake (group s touches t.a) ≡ false = before.alike t.a ∙ sides.0 ∙ down in
            let second : awake (group s touches t.b) ≡ false = before.alike t.b ∙ sides.1 ∙ down in
            let chosen = λ (i : ℕ). ap (λ e. group s (cond e (t ∷ filter act touches) (filter act touches)) i) down in
            record {
              same = λ i i_up.
                  chosen i ∙ before.same i i_up
                  ∙ sym (merged_apart awake false (group s touches t.a) (group s touches t.b) (group s touches i) first second
                  (before.alike i ∙ i_up))
                  ∙ sym (all_joined joins i);
              alike = λ i.
                  ap awake (all_joined joins i)
                  ∙ merged_mark awake false (group s touches t.a) (group s touches t.b) (group s touches i) first second
                  ∙ before.alike i;
              alone = λ i i_down. chosen i ∙ before.alone i i_down;
            }

        by : (c : Bool) → connects s t ≡ c → (e : Bool) → act t ≡ e → AreAlike (t ∷ touches)
        by false apart e is = unmet apart
        by true joins true is = up_joined joins is
        by true joins false is = down_joined joins is

  -- all of them
  are_alike : (touches : List Touch) → AreSettled s bodies touches → AreAlike touches
  unfolding group
  are_alike [] settled = record { same = λ i up. refl; alike = λ i. refl; alone = λ i down. refl }
  are_alike (t ∷ touches) settled =
      let holds = λ (x : Touch). act x ≡ true → wakes_none s bodies x ≡ true in
      alike_more t touches (are_alike touches (All-tail holds t touches settled)) (All-head holds t touches settled)

-- ---- what a tick makes of settled bodies

module _ (s : Scene) (bodies : List BodyState) (touches : List Touch) (count : length bodies ≡ length s.fixtures)
    (settled : AreSettled s bodies touches) where
  -- the contacts that are simulated
  abbrev chosen : List Touch
  chosen = filter (is_active_contact s bodies) touches

  abbrev up : ℕ → Bool
  up i = is_awake_at bodies i

  likeness : AreAlike s bodies touches
  likeness = are_alike s bodies touches settled

  -- a sleeping body is alone in its group
  pub chosen_alone : (i : ℕ) → up i ≡ false → group s chosen i ≡ i
  chosen_alone i asleep = likeness.alone i asleep

  -- the group of a body has an awake body exactly where the body is awake
  active_at : (i : ℕ) → i < length s.fixtures → is_active (groups s touches) bodies (group s touches i) ≡ up i
  active_at i within = by (up i) refl
    where
      test : ℕ × BodyState → Bool
      test m = (m.0 == group s touches i) && m.1.awake

      by : (e : Bool) → up i ≡ e → is_active (groups s touches) bodies (group s touches i) ≡ e
      by true is =
          any_from test (groups s touches) bodies i (group s touches i) (get_or bodies i no_state) (name_at s touches i within)
          (slice_get-get_or bodies i no_state (omega (arith, count, within)))
          (and_from _ _ (eq-eqb (group s touches i) (group s touches i) refl) is)
      by false is =
          false_from_ne_true _
          (λ some.
          let found = any_found test (groups s touches) bodies some in
          let parts = and_parts (found.1 == group s touches i) found.2.awake found.5 in
          let j_up : up found.0 ≡ true = ap (λ (b : BodyState). b.awake)
          (get_or_from_slice_get bodies found.0 found.2 no_state found.4) ∙ parts.1 in
          let same = sym (name_is s touches found.0 found.1 found.3) ∙ eqb-true found.1 (group s touches i) parts.0 in
          true≢false
          (sym j_up ∙ sym (likeness.alike found.0) ∙ ap up same ∙ likeness.alike i ∙ is))

  -- bodies stay as they are
  pub woken_same : woken_bodies (groups s touches) bodies ≡ bodies
  unfolding woken_bodies
  woken_same =
      ext_get_or no_state (map wake (zip (groups s touches) bodies)) bodies long
      (λ i inside.
      let small : i < length bodies = omega (arith, inside, long) in
      let within : i < length s.fixtures = omega (arith, small, count) in
      let b : BodyState = get_or bodies i no_state in
      get_or_from_slice_get (map wake (zip (groups s touches) bodies)) i (wake (group s touches i, b)) no_state
      (slice_get-map wake (zip (groups s touches) bodies) i
      ∙ ap (option_map wake)
      (zip_at (groups s touches) bodies i (group s touches i) b (name_at s touches i within)
      (slice_get-get_or bodies i no_state small)))
      ∙ ap (λ t. record b { awake = t }) (active_at i within))
    where
      wake : ℕ × BodyState → BodyState
      wake m = record m.1 { awake = is_active (groups s touches) bodies m.0 }

      long : length (map wake (zip (groups s touches) bodies)) ≡ length bodies
      long =
          length-map (zip (groups s touches) bodies) wake
          ∙ zip_length (groups s touches) bodies (groups_long s touches ∙ sym count)

  -- groups are awake as wholes
  woken_groups : AreWoken (groups s touches) bodies
  woken_groups = subst (AreWoken (groups s touches)) woken_same (groups_woken s touches bodies count)

  -- ---- the labels by the contacts that are simulated

  same_name : (i : ℕ) → i < length s.fixtures → up i ≡ true → get_or (groups s chosen) i 0 ≡ get_or (groups s touches) i 0
  same_name i within is = name_of s chosen i within ∙ likeness.same i is ∙ sym (name_of s touches i within)

  own_name : (i : ℕ) → i < length s.fixtures → up i ≡ false → get_or (groups s chosen) i 0 ≡ i
  own_name i within is = name_of s chosen i within ∙ likeness.alone i is

  -- an awake label is no label of a body that is not awake
  other_name : (label n : ℕ) → up label ≡ true → up n ≡ false → (n == label) ≡ false
  other_name label n awake asleep = ne_eqb n label (λ same. true≢false (sym awake ∙ sym (ap up same) ∙ asleep))

  -- the same labels are of groups that are simulated
  same_active : (i : ℕ) → i < length s.fixtures
      → is_active_label (groups s chosen) bodies i ≡ is_active_label (groups s touches) bodies i
  same_active i within = by (up i) refl
    where
      none : (x : Bool) → (x && false) ≡ false
      none true = refl
      none false = refl

      by : (e : Bool) → up i ≡ e
          → is_active_label (groups s chosen) bodies i ≡ is_active_label (groups s touches) bodies i
      by true is = ap (λ n. (n == i) && up i) (same_name i within is)
      by false is =
          ap (λ t. (get_or (groups s chosen) i 0 == i) && t) is ∙ none (get_or (groups s chosen) i 0 == i)
          ∙ sym (none (get_or (groups s touches) i 0 == i)) ∙ sym (ap (λ t. (get_or (groups s touches) i 0 == i) && t) is)

  long_names : length (groups s chosen) ≡ length (groups s touches)
  long_names = groups_long s chosen ∙ sym (groups_long s touches)

  range_is : range_with_len 0 (length (groups s chosen)) ≡ range_with_len 0 (length (groups s touches))
  range_is = ap (range_with_len 0) long_names

  bodies_within : All (λ i. i < length s.fixtures) (range_with_len 0 (length (groups s touches)))
  bodies_within = range_within 0 (length (groups s touches)) (length s.fixtures) (omega (arith, groups_long s touches))

  pub same_active_labels : active_labels (groups s chosen) bodies ≡ active_labels (groups s touches) bodies
  same_active_labels =
      ap (filter (is_active_label (groups s chosen) bodies)) range_is
      ∙ filter_same (is_active_label (groups s chosen) bodies) (is_active_label (groups s touches) bodies)
      (range_with_len 0 (length (groups s touches)))
      (All-weaker (λ i. i < length s.fixtures)
      (λ i. is_active_label (groups s chosen) bodies i ≡ is_active_label (groups s touches) bodies i) same_active
      (range_with_len 0 (length (groups s touches))) bodies_within)

  -- and these groups have the same group_members
  pub same_members : (label : ℕ) → up label ≡ true → group_members (groups s chosen) label ≡ group_members (groups s touches) label
  same_members label is =
      ap (filter (λ i. get_or (groups s chosen) i 0 == label)) range_is
      ∙ filter_same (λ i. get_or (groups s chosen) i 0 == label) (λ i. get_or (groups s touches) i 0 == label)
      (range_with_len 0 (length (groups s touches)))
      (All-weaker (λ i. i < length s.fixtures)
      (λ i. (get_or (groups s chosen) i 0 == label) ≡ (get_or (groups s touches) i 0 == label))
      (λ i within. by i within (up i) refl) (range_with_len 0 (length (groups s touches))) bodies_within)
    where
      by : (i : ℕ) → i < length s.fixtures → (e : Bool) → up i ≡ e
          → (get_or (groups s chosen) i 0 == label) ≡ (get_or (groups s touches) i 0 == label)
      by i within true i_is = ap (λ n. n == label) (same_name i within i_is)
      by i within false i_is =
          ap (λ n. n == label) (own_name i within i_is) ∙ other_name label i is i_is
          ∙ sym
          (ap (λ n. n == label) (name_of s touches i within)
          ∙ other_name label (group s touches i) is (likeness.alike i ∙ i_is))

  -- so the islands are the same
  pub islands_same : (rows : List Row) → islands (groups s chosen) bodies rows ≡ islands (groups s touches) bodies rows
  islands_same rows =
      ap (map (λ label. island_of bodies rows (group_members (groups s chosen) label))) same_active_labels
      ∙ map_where (λ label. up label ≡ true) (λ label. island_of bodies rows (group_members (groups s chosen) label))
      (λ label. island_of bodies rows (group_members (groups s touches) label))
      (λ label is. ap (island_of bodies rows) (same_members label is))
      (active_labels (groups s touches) bodies)
      (All-weaker (λ label. is_active_label (groups s touches) bodies label ≡ true) (λ label. up label ≡ true)
      (λ label active. (and_parts (get_or (groups s touches) label 0 == label) (up label) active).1)
      (active_labels (groups s touches) bodies)
      (chosen_pass (is_active_label (groups s touches) bodies) (range_with_len 0 (length (groups s touches)))))

  -- groups are awake as wholes by these labels too
  pub chosen_woken : AreWoken (groups s chosen) bodies
  chosen_woken = record {
    active = λ i inside is.
        let within : i < length s.fixtures = omega (arith, inside, groups_long s chosen) in
        let label : ℕ = get_or (groups s touches) i 0 in
        let low : label < length s.fixtures = omega (arith, name_of s touches i within, group_low s touches i, within) in
        subst (λ n. is_active_label (groups s chosen) bodies n ≡ true) (sym (same_name i within is))
        (same_active label low ∙ woken_groups.active i (omega (arith, within, groups_long s touches)) is);
    whole = λ i inside active.
        let within : i < length s.fixtures = omega (arith, inside, groups_long s chosen) in
        whole_by i within active (up i) refl;
  }
    where
      whole_by : (i : ℕ) → i < length s.fixtures
          → is_active_label (groups s chosen) bodies (get_or (groups s chosen) i 0) ≡ true
          → (e : Bool) → up i ≡ e → up i ≡ true
      whole_by i within active true is = is
      whole_by i within active false is =
          let at = subst (λ n. is_active_label (groups s chosen) bodies n ≡ true) (own_name i within is) active in
          (and_parts (get_or (groups s chosen) i 0 == i) (up i) at).1

  -- and the rows of the tick are each of one group
  pub chosen_rows : (contacts : List Contact) → All (IsTouchOf (length bodies)) touches
      → All (IsActiveRow (groups s chosen) bodies) (active_rows s bodies touches contacts)
  chosen_rows contacts of =
      All-weaker (IsActiveRow (groups s touches) bodies) (IsActiveRow (groups s chosen) bodies)
      (λ r is. record {
        first = side_long r.entry.first is.first;
        second = side_long r.entry.second is.second;
        active = is.active;
        together = both r is r.entry.first r.entry.second refl refl is.first is.second is.together;
      })
      (active_rows s bodies touches contacts) (rows_are_active s touches bodies contacts count of)
    where
      side_long : (side : Side) → IsSide (length (groups s touches)) side → IsSide (length (groups s chosen)) side
      side_long side is = subst (λ n. IsSide n side) (sym long_names) is

      name : (r : Row) → IsActiveRow (groups s touches) bodies r → (j : ℕ) → j < length (groups s touches)
          → (r.entry.first ≡ Dynamic j) ⊎ (r.entry.second ≡ Dynamic j)
          → get_or (groups s chosen) j 0 ≡ get_or (groups s touches) j 0
      name r is j inside one =
          same_name j (omega (arith, inside, groups_long s touches))
          (sides_awake (groups s touches) bodies r (groups_named s touches) woken_groups is j one)

      both : (r : Row) → IsActiveRow (groups s touches) bodies r → (first second : Side)
          → r.entry.first ≡ first → r.entry.second ≡ second
          → IsSide (length (groups s touches)) first → IsSide (length (groups s touches)) second
          → AreTogether (groups s touches) first second → AreTogether (groups s chosen) first second
      both r is Static Static f_is s_is one two same = tt
      both r is Static (Dynamic b) f_is s_is one two same = tt
      both r is (Dynamic a) Static f_is s_is one two same = tt
      both r is (Dynamic a) (Dynamic b) f_is s_is one two same =
          name r is a one (inl f_is) ∙ same ∙ sym (name r is b two (inr s_is))

-- ---- bodies that are woken

-- they are settled
-- as many bodies are woken as there are
pub woken_long : (s : Scene) (bodies : List BodyState) (touches : List Touch) → length bodies ≡ length s.fixtures
    → length (woken_bodies (groups s touches) bodies) ≡ length bodies
unfolding woken_bodies
woken_long s bodies touches count =
    length-map (zip (groups s touches) bodies) _ ∙ zip_length (groups s touches) bodies (groups_long s touches ∙ sym count)

pub none_woken : (s : Scene) (bodies : List BodyState) (touches : List Touch) → length bodies ≡ length s.fixtures
    → bodies ≡ [] → woken_bodies (groups s touches) bodies ≡ []
none_woken s bodies touches count none =
    nil_from_length (woken_bodies (groups s touches) bodies) (woken_long s bodies touches count ∙ ap length none)

pub woken_settled : (s : Scene) (touches : List Touch) (bodies : List BodyState) → length bodies ≡ length s.fixtures
    → All (IsTouchOf (length bodies)) touches
    → AreSettled s (woken_bodies (groups s touches) bodies) touches
unfolding is_active_contact
woken_settled s touches bodies count of = λ k d within active.
    let t = get_or touches k d in
    let is = of k d within in
    by t.a t.b (is_static_at s t.a) refl (is_static_at s t.b) refl (is_awake_at after t.a) (is_awake_at after t.b)
    (λ a_moves b_moves.
    woken_at s touches bodies count t.a (omega (arith, is.0, is.1, count))
    ∙ ap (is_active (groups s touches) bodies)
    (one_group s touches k t (slice_get-get_or touches k d within) a_moves b_moves)
    ∙ sym (woken_at s touches bodies count t.b (omega (arith, is.1, count))))
    active
  where
    after : List BodyState
    after = woken_bodies (groups s touches) bodies

    by : (a b : ℕ) → (c : Bool) → is_static_at s a ≡ c → (d : Bool) → is_static_at s b ≡ d → (x y : Bool)
        → (is_static_at s a ≡ false → is_static_at s b ≡ false → x ≡ y)
        → ((not c && x) || (not d && y)) ≡ true → (not (not c && not d) || (x && y)) ≡ true
    by a b true a_is d b_is x y same h = refl
    by a b false a_is true b_is x y same h = refl
    by a b false a_is false b_is true true same h = refl
    by a b false a_is false b_is true false same h = absurd (true≢false (same a_is b_is))
    by a b false a_is false b_is false true same h = absurd (true≢false (sym (same a_is b_is)))
    by a b false a_is false b_is false false same h = absurd (true≢false (sym h))

-- ---- what code tests

-- where the contacts that are simulated wake no body, bodies are settled
pub settled_from : (s : Scene) (bodies : List BodyState) (touches : List Touch) (points : List (ℕ × Touch))
    → points ≡ active_points s bodies touches
    → list_all (wakes_none s bodies) (touches_of points) ≡ true → AreSettled s bodies touches
settled_from s bodies touches points are all =
    every touches
    (ap (list_all (wakes_none s bodies)) (sym (ap touches_of are ∙ touches_of_active s bodies touches)) ∙ all)
  where
    holds : Touch → Type 0
    holds t = is_active_contact s bodies t ≡ true → wakes_none s bodies t ≡ true

    every : (ts : List Touch) → list_all (wakes_none s bodies) (filter (is_active_contact s bodies) ts) ≡ true → AreSettled s bodies ts
    every [] h = All-nil holds
    every (t ∷ ts) h = by (is_active_contact s bodies t) refl h (every ts)
      where
        by : (e : Bool) → is_active_contact s bodies t ≡ e
            → list_all (wakes_none s bodies) (cond e (t ∷ filter (is_active_contact s bodies) ts) (filter (is_active_contact s bodies) ts)) ≡ true
            → (list_all (wakes_none s bodies) (filter (is_active_contact s bodies) ts) ≡ true → AreSettled s bodies ts)
            → AreSettled s bodies (t ∷ ts)
        by true is h rest =
            let parts = and_parts (wakes_none s bodies t) (list_all (wakes_none s bodies) (filter (is_active_contact s bodies) ts)) h in
            All-cons holds t ts (λ active. parts.0) (rest parts.1)
        by false is h rest = All-cons holds t ts (λ active. absurd (true≢false (sym active ∙ is))) (rest h)

-- the contacts that are simulated leave each sleeping body alone in its group
pub others_alone : (s : Scene) (bodies : List BodyState) (touches : List Touch) → length bodies ≡ length s.fixtures
    → AreSettled s bodies touches → (points : List (ℕ × Touch)) (numbers : List ℕ)
    → points ≡ active_points s bodies touches → numbers ≡ awake_numbers bodies
    → OthersAreAlone s (touches_of points) numbers
others_alone s bodies touches count settled points numbers are awake = record {
  is_listed = is_awake_at bodies;
  listed = awake ∙ ap (λ n. filter (is_awake_at bodies) (range_with_len 0 n)) count;
  others = λ i within asleep.
      ap (λ ts. group s ts i) (ap touches_of are ∙ touches_of_active s bodies touches)
      ∙ chosen_alone s bodies touches count settled i asleep;
}

-- all bodies are listed
pub all_listed : (s : Scene) (touches : List Touch) (numbers : List ℕ) → numbers ≡ range_with_len 0 (length s.fixtures)
    → OthersAreAlone s touches numbers
all_listed s touches numbers are = record {
  is_listed = λ i. true;
  listed = are ∙ sym (every (range_with_len 0 (length s.fixtures)));
  others = λ i within other. absurd (true≢false other);
}
  where
    every : (xs : List ℕ) → filter (λ (i : ℕ). true) xs ≡ xs
    every [] = refl
    every (x ∷ xs) = ap (λ ys. x ∷ ys) (every xs)

-- the labels by the contacts that are simulated
module _ (s : Scene) (bodies : List BodyState) (touches : List Touch) (count : length bodies ≡ length s.fixtures)
    (settled : AreSettled s bodies touches) (labels : List ℕ) (points : List (ℕ × Touch))
    (are : points ≡ active_points s bodies touches) (labelled : labels ≡ groups s (touches_of points)) where
  labels_are : labels ≡ groups s (filter (is_active_contact s bodies) touches)
  labels_are = labelled ∙ ap (groups s) (ap touches_of are ∙ touches_of_active s bodies touches)

  pub labels_woken : AreWoken labels bodies
  labels_woken = subst (λ ns. AreWoken ns bodies) (sym labels_are) (chosen_woken s bodies touches count settled)

  pub labels_rows : (contacts : List Contact) → All (IsTouchOf (length bodies)) touches
      → All (IsActiveRow labels bodies) (active_rows s bodies touches contacts)
  labels_rows contacts of =
      subst (λ ns. All (IsActiveRow ns bodies) (active_rows s bodies touches contacts)) (sym labels_are)
      (chosen_rows s bodies touches count settled contacts of)

  pub labels_islands : (rows : List Row) → islands labels bodies rows ≡ islands (groups s touches) bodies rows
  labels_islands rows =
      ap (λ ns. islands ns bodies rows) labels_are ∙ islands_same s bodies touches count settled rows

  pub labels_long : length labels ≡ length bodies
  labels_long = ap length labelled ∙ groups_long s (touches_of points) ∙ sym count

  pub labels_low : All (λ label. label < length labels) labels
  labels_low = subst (λ ns. All (λ label. label < length ns) ns) (sym labelled) (groups_named s (touches_of points))

-- the islands of the contact points that are simulated are those of all
pub same_islands : (s : Scene) (bodies : List BodyState) (touches : List Touch) (contacts : List Contact)
    → length bodies ≡ length s.fixtures → AreSettled s bodies touches → (points : List (ℕ × Touch))
    → points ≡ active_points s bodies touches
    → point_islands s bodies points contacts ≡ group_islands s bodies touches contacts
same_islands s bodies touches contacts count settled points are =
    labels_islands s bodies touches count settled (groups s (touches_of points)) points are refl
    (map (row_at s contacts) points)
    ∙ ap (λ ms. islands (groups s touches) bodies (map (row_at s contacts) ms)) are
