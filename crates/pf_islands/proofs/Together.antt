-- The groups of a tick are awake as wholes, and no contact leads out of a group to another dynamic
-- body.
use Rattle.std.proofs.Common.{◌≡◌, ◌∙◌, inl, inr, ℕ, zero, suc, ◌<◌, ◌==◌, Bool, true, false, not, ◌&&◌, List, [], ◌∷◌, Some, length, map, option_map, get_or, refl, sym, ap, subst, arith, slice_get, if◌then◌else◌}
use Rattle.std.proofs.lemmas.Bool.{and_from, and_parts, eq-eqb}
use Rattle.std.proofs.lemmas.List.{get_or_read}
use Rattle.std.proofs.lemmas.List.FromFn.{get_or-map-range_with_len}
use Rattle.std.proofs.lemmas.Option.{get_or_from_slice_get, slice_get-get_or, slice_get-map}
use Rattle.std.specs.List.{zip}
use Rattle.std.specs.Prelude.{All}
use Rattle.pf_shapes.specs.Body.{BodyState, no_state}
use Rattle.pf_shapes.specs.Scene.{Scene, is_static_at}
use Rattle.pf_manifold.specs.Touches.{IsTouchOf, Touch}
use Rattle.pf_rows.specs.declared.row.Side.TheVariants.{Static, Dynamic}
use Rattle.pf_cache.specs.Contact.{Contact, no_contact}
use Rattle.pf_rows.specs.Row.{IsSide}
use Rattle.pf_islands.specs.Group.{group, groups}
use Rattle.pf_islands.specs.Reach.{AreNeighbours, ConnectsBodies, connects}
use Rattle.pf_islands.specs.Rows.{active_points, active_rows, is_active_contact, is_awake_at, is_simulated_at, row_of, side_of}
use Rattle.pf_islands.specs.Sleep.{is_active, woken_bodies}
use Rattle.pf_islands.specs.Split.{AreTogether, AreWoken, IsActiveRow, is_active_label, is_awake_side}
use Rattle.pf_islands.proofs.ActiveRows.{all_rows, point_low, row_at, row_holds}
use Rattle.pf_islands.proofs.Chains.{one_name, reaches_name}
use Rattle.pf_islands.proofs.Elements.{same_element, zip_at}
use Rattle.pf_islands.proofs.Starting.{group_low, groups_long}

-- a contact point that connects two bodies makes them neighbours
pub neighbours_at : (s : Scene) (touches : List Touch) (k : ℕ) (t : Touch) (a b : ℕ) → slice_get touches k ≡ Some t
    → ConnectsBodies s t a b → AreNeighbours s touches a b
neighbours_at s [] k t a b here between = absurd cc
neighbours_at s (x ∷ touches) zero t a b here between =
    inl (subst (λ (y : Touch). ConnectsBodies s y a b) (sym (same_element x t here)) between)
neighbours_at s (x ∷ touches) (suc k) t a b here between = inr (neighbours_at s touches k t a b here between)

module _ (s : Scene) (touches : List Touch) where
  -- the label of a body's group
  pub name_of : (i : ℕ) → i < length s.fixtures → get_or (groups s touches) i 0 ≡ group s touches i
  name_of i within = get_or-map-range_with_len (group s touches) 0 (length s.fixtures) i i 0 within (omega arith)

  -- a label is that of its own group
  own_name : (i : ℕ) → group s touches (group s touches i) ≡ group s touches i
  own_name i = sym (one_name s touches i (group s touches i) (reaches_name s touches i))

  -- ---- groups awake as wholes

  module _ (bodies : List BodyState) (count : length bodies ≡ length s.fixtures) where
    abbrev labels : List ℕ
    labels = groups s touches

    abbrev after : List BodyState
    after = woken_bodies labels bodies

    -- a body is awake afterwards where its group has an awake one
    pub woken_at : (i : ℕ) → i < length s.fixtures
        → is_awake_at after i ≡ is_active labels bodies (group s touches i)
    unfolding woken_bodies
    woken_at i within =
        let first = slice_get-get_or labels i 0 (omega (arith, groups_long s touches, within)) in
        let second = slice_get-get_or bodies i no_state (omega (arith, count, within)) in
        ap (λ (b : BodyState). b.awake)
        (get_or_from_slice_get (map wake (zip labels bodies)) i (wake (get_or labels i 0, get_or bodies i no_state)) no_state
        (slice_get-map wake (zip labels bodies) i
        ∙ ap (option_map wake) (zip_at labels bodies i (get_or labels i 0) (get_or bodies i no_state) first second)))
        ∙ ap (is_active labels bodies) (name_of i within)
      where
        wake : ℕ × BodyState → BodyState
        wake m = record m.1 { awake = is_active labels bodies m.0 }

    -- the least body of a group is awake where its group has an awake body
    least_awake : (i : ℕ) → i < length s.fixtures
        → is_awake_at after (group s touches i) ≡ is_active labels bodies (group s touches i)
    least_awake i within =
        let low = group_low s touches i in
        woken_at (group s touches i) (omega (arith, low, within)) ∙ ap (is_active labels bodies) (own_name i)

    pub groups_woken : AreWoken labels after
    groups_woken = record {
      active = λ i inside awake.
          let within : i < length s.fixtures = omega (arith, inside, groups_long s touches) in
          let low = group_low s touches i in
          subst (λ n. is_active_label labels after n ≡ true) (sym (name_of i within))
          (and_from _ _
          (eq-eqb (get_or labels (group s touches i) 0) (group s touches i)
          (name_of (group s touches i) (omega (arith, low, within)) ∙ own_name i))
          (least_awake i within ∙ sym (woken_at i within) ∙ awake));
      whole = λ i inside active.
          let within : i < length s.fixtures = omega (arith, inside, groups_long s touches) in
          let at = subst (λ n. is_active_label labels after n ≡ true) (name_of i within) active in
          woken_at i within ∙ sym (least_awake i within)
          ∙ (and_parts (get_or labels (group s touches i) 0 == group s touches i) (is_awake_at after (group s touches i)) at).1;
    }

  -- ---- contacts within one group

  -- a contact of two dynamic bodies has both in one group
  pub one_group : (k : ℕ) (t : Touch) → slice_get touches k ≡ Some t → is_static_at s t.a ≡ false → is_static_at s t.b ≡ false
      → group s touches t.a ≡ group s touches t.b
  one_group k t stands a_moves b_moves =
      let joins : connects s t ≡ true = rw (a_moves, b_moves) refl in
      let between : ConnectsBodies s t t.a t.b = (joins, inl (refl, refl)) in
      one_name s touches t.a t.b (t.b ∷ [], (neighbours_at s touches k t t.a t.b stands between, refl))

  -- the dynamic bodies of a contact are in one group
  pub together : (k : ℕ) (t : Touch) → slice_get touches k ≡ Some t → t.a < length s.fixtures → t.b < length s.fixtures
      → AreTogether (groups s touches) (side_of s t.a) (side_of s t.b)
  together k t stands first second = by (is_static_at s t.a) refl (is_static_at s t.b) refl
    where
      by : (d : Bool) → is_static_at s t.a ≡ d → (e : Bool) → is_static_at s t.b ≡ e
          → AreTogether (groups s touches) (if d then Static else Dynamic t.a) (if e then Static else Dynamic t.b)
      by true a_is true b_is = tt
      by true a_is false b_is = tt
      by false a_is true b_is = tt
      by false a_is false b_is =
          name_of t.a first ∙ one_group k t stands a_is b_is ∙ sym (name_of t.b second)

  -- ---- rows

  pub side_within : (n number : ℕ) → number < n → IsSide n (side_of s number)
  side_within n number within = by (is_static_at s number)
    where
      by : (e : Bool) → IsSide n (if e then Static else Dynamic number)
      by true = tt
      by false = within

  awake_side : (bodies : List BodyState) (number : ℕ)
      → is_awake_side bodies (side_of s number) ≡ is_simulated_at s bodies number
  awake_side bodies number = by (is_static_at s number)
    where
      by : (e : Bool) → is_awake_side bodies (if e then Static else Dynamic number)
          ≡ (not e && is_awake_at bodies number)
      by true = refl
      by false = refl

  -- the rows of a tick are those of contacts that are simulated, each within one group
  pub rows_are_active : (bodies : List BodyState) (contacts : List Contact) → length bodies ≡ length s.fixtures
      → All (IsTouchOf (length bodies)) touches
      → All (IsActiveRow (groups s touches) bodies) (active_rows s bodies touches contacts)
  unfolding row_of is_active_contact
  rows_are_active bodies contacts count of =
      all_rows s bodies (IsActiveRow (groups s touches) bodies) touches contacts
      (λ k d within active place c.
      let t = get_or touches k d in
      let is = of k d within in
      let first : t.a < length s.fixtures = omega (arith, is.0, is.1, count) in
      let second : t.b < length s.fixtures = omega (arith, is.1, count) in
      let long = groups_long s touches in
      record {
        first = side_within (length (groups s touches)) t.a (omega (arith, long, first));
        second = side_within (length (groups s touches)) t.b (omega (arith, long, second));
        active = rw (awake_side bodies t.a, awake_side bodies t.b) active;
        together = together k t (slice_get-get_or touches k d within) first second;
      })

  -- the row of a contact point and a contact that are read at a place of a contact that is simulated,
  -- where all rows are of these labels
  pub read_row_is_active : (bodies : List BodyState) (contacts : List Contact) (labels : List ℕ) (points : List (ℕ × Touch))
      (k : ℕ) (m : ℕ × Touch) (c : Contact) → All (IsActiveRow labels bodies) (active_rows s bodies touches contacts)
      → length contacts ≡ length touches → points ≡ active_points s bodies touches
      → k < length points → m ≡ get_or points k m → c ≡ get_or contacts m.0 c
      → IsActiveRow labels bodies (row_of s m.0 m.1 c)
      × (row_of s m.0 m.1 c ≡ row_at s contacts (get_or points k m))
  read_row_is_active bodies contacts labels points k m c active same are within m_is c_is =
      let low = point_low s bodies touches contacts points k m are same within m_is in
      let at : row_of s m.0 m.1 c ≡ row_at s contacts (get_or points k m) =
      ap (row_of s m.0 m.1) (get_or_read contacts m.0 c low c_is no_contact)
      ∙ ap (row_at s contacts) m_is in
      let holds = row_holds s bodies touches contacts (IsActiveRow labels bodies) points k m active are within in
      (subst (IsActiveRow labels bodies) (sym at) holds, at)
