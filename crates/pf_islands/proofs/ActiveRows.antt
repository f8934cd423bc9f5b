-- The rows of a tick.
use Rattle.std.proofs.Common.{◌≡◌, ⊎_elim, ℕ, suc, ◌+◌, ◌<◌, Bool, true, false, not, ◌&&◌, ◌||◌, List, [], ◌∷◌, ◌++◌, Some, length, map, filter, get_or, cond, refl, ap, ap₂, sym, ◌∙◌, subst, arith, slice_get, if◌then◌else◌}
use Rattle.std.proofs.lemmas.Bool.{cases_lt}
use Rattle.std.proofs.lemmas.List.{get_or-map as get_or-mapped, length-map}
use Rattle.std.proofs.lemmas.List.FromFn.{get_or-enumerate_from, get_or-map-range_with_len, length-enumerate_from, length-map-range_with_len}
use Rattle.std.proofs.Math.ListN.{get_or-eq_default, get_or-map}
use Rattle.std.proofs.lemmas.Simd.{map-map}
use Rattle.std.proofs.lemmas.Option.{get_or_from_slice_get, slice_get-get_or, slice_get_within}
use Rattle.std.proofs.lemmas.List.Elements.{All-nil, All-cons, All-filter, All-head, All-tail, All-map, All-weaker}
use Rattle.std.specs.List.{enumerate_from}
use Rattle.std.specs.Prelude.{All}
use Rattle.pf_shapes.specs.Body.{BodyState, no_state}
use Rattle.pf_shapes.specs.Scene.{Scene, is_static_at}
use Rattle.pf_manifold.specs.Key.{AreTouches, IsKey, IsRising, key_of, rank}
use Rattle.pf_manifold.specs.Touches.{IsTouchOf, Touch}
use Rattle.pf_manifold.proofs.Rising.{rising-weaken}
use Rattle.pf_rows.specs.declared.row.Side.TheVariants.{Static, Dynamic}
use Rattle.pf_cache.specs.Contact.{Contact, no_contact}
use Rattle.pf_cache.specs.Points.{flagged_points, is_flagged}
use Rattle.pf_rows.specs.Row.{AreApart, AreRows, IsSide, Row}
use Rattle.pf_cache.specs.ContactRows.{AreRowsAt, IsRowAt}
use Rattle.pf_islands.specs.Flags.{simulated_flags}
use Rattle.pf_islands.specs.Rows.{IsRowOf, active_points, active_rows, is_active_contact, is_awake_at, is_simulated_at, row_of, side_of}
use Rattle.pf_islands.specs.Settled.{touches_of}

-- functions that agree where P holds
pub map_where : {X Y : Type 0} (P : X → Type 0) (f g : X → Y) → ((x : X) → P x → f x ≡ g x) → (xs : List X)
    → All P xs → map f xs ≡ map g xs
map_where P f g same [] all = refl
map_where P f g same (x ∷ xs) all =
    ap₂ (λ y ys. y ∷ ys) (same x (All-head P x xs all)) (map_where P f g same xs (All-tail P x xs all))

-- ---- contact points with their places

-- an element stands at a place
abbrev pub StandsAt : {X : Type 0} → List X → ℕ × X → Type 0
StandsAt xs m = slice_get xs m.0 ≡ Some m.1

-- each counted element stands at its place
counted : {X : Type 0} (xs : List X) → All (StandsAt xs) (enumerate_from 0 xs)
counted xs =
    λ i d within.
    let inside : i < length xs = omega (arith, length-enumerate_from 0 xs, within) in
    let here : 0 + i ≡ i = omega arith in
    subst (StandsAt xs) (sym (get_or-enumerate_from 0 xs i d inside))
    (ap (slice_get xs) here ∙ slice_get-get_or xs i d.1 inside)

module _ (s : Scene) (bodies : List BodyState) where
  -- the contact points that are simulated, with places counted from k
  abbrev pub points_from : ℕ → List Touch → List (ℕ × Touch)
  points_from k touches = filter (λ (m : ℕ × Touch). is_active_contact s bodies m.1) (enumerate_from k touches)

  abbrev pub one_point : ℕ → Touch → Bool → List (ℕ × Touch)
  one_point k t true = (k, t) ∷ []
  one_point k t false = []

  pub points_cons : (k : ℕ) (t : Touch) (touches : List Touch)
      → points_from k (t ∷ touches) ≡ one_point k t (is_active_contact s bodies t) ++ points_from (k + 1) touches
  points_cons k t touches = by (is_active_contact s bodies t)
    where
      by : (e : Bool) → cond e ((k, t) ∷ points_from (k + 1) touches) (points_from (k + 1) touches)
          ≡ one_point k t e ++ points_from (k + 1) touches
      by true = refl
      by false = refl

  -- each stands at its place
  pub points_stand : (touches : List Touch) → All (StandsAt touches) (active_points s bodies touches)
  points_stand touches =
      All-filter (λ (m : ℕ × Touch). is_active_contact s bodies m.1) (StandsAt touches) (enumerate_from 0 touches) (counted touches)

  -- what holds of each contact point that is simulated
  all_points : (P : ℕ × Touch → Type 0) (k : ℕ) (touches : List Touch)
      → All (λ t. is_active_contact s bodies t ≡ true → (i : ℕ) → P (i, t)) touches → All P (points_from k touches)
  all_points P k [] h = All-nil P
  all_points P k (t ∷ touches) h =
      rw (points_cons k t touches)
      (by (is_active_contact s bodies t) (All-head (λ x. is_active_contact s bodies x ≡ true → (i : ℕ) → P (i, x)) t touches h)
      (all_points P (k + 1) touches (All-tail (λ x. is_active_contact s bodies x ≡ true → (i : ℕ) → P (i, x)) t touches h)))
    where
      by : (e : Bool) → (e ≡ true → (i : ℕ) → P (i, t)) → All P (points_from (k + 1) touches)
          → All P (one_point k t e ++ points_from (k + 1) touches)
      by true here rest = All-cons P (k, t) (points_from (k + 1) touches) (here refl k) rest
      by false here rest = rest

  -- their ranks rise as those of all contact points
  points_rise : (least k : ℕ) (touches : List Touch) → IsRising least (map (λ t. rank (key_of t)) touches)
      → IsRising least (map (λ (m : ℕ × Touch). rank (key_of m.1)) (points_from k touches))
  points_rise least k [] h = tt
  points_rise least k (t ∷ touches) h =
      rw (points_cons k t touches)
      (by (is_active_contact s bodies t) (points_rise (suc (rank (key_of t))) (k + 1) touches h.1))
    where
      by : (e : Bool) → IsRising (suc (rank (key_of t))) (map (λ (m : ℕ × Touch). rank (key_of m.1)) (points_from (k + 1) touches))
          → IsRising least (map (λ (m : ℕ × Touch). rank (key_of m.1)) (one_point k t e ++ points_from (k + 1) touches))
      by true rest = (h.0, rest)
      by false rest =
          let low = h.0 in
          rising-weaken least (suc (rank (key_of t))) (map (λ (m : ℕ × Touch). rank (key_of m.1)) (points_from (k + 1) touches))
          (omega (arith, low)) rest

-- ---- rows

-- the row of a contact point with its place, and the contact there
abbrev pub row_at : Scene → List Contact → ℕ × Touch → Row
row_at s contacts m = row_of s m.0 m.1 (get_or contacts m.0 no_contact)

module _ (s : Scene) (bodies : List BodyState) where
  -- what holds of the row of each contact point that is simulated holds of all rows
  abbrev pub HoldsWhere : (Row → Type 0) → Touch → Type 0
  HoldsWhere P t = is_active_contact s bodies t ≡ true → (place : ℕ) (c : Contact) → P (row_of s place t c)

  pub all_rows : (P : Row → Type 0) (touches : List Touch) (contacts : List Contact) → All (HoldsWhere P) touches
      → All P (active_rows s bodies touches contacts)
  all_rows P touches contacts h =
      let at : ℕ × Touch → Row = λ m. row_of s m.0 m.1 (get_or contacts m.0 no_contact) in
      All-map P at (active_points s bodies touches)
      (all_points s bodies (λ m. P (at m)) 0 touches
      (All-weaker (HoldsWhere P) (λ t. is_active_contact s bodies t ≡ true → (i : ℕ) → P (at (i, t)))
      (λ t here active i. here active i (get_or contacts i no_contact)) touches h))

-- the contact points that are simulated, without their places
pub touches_of_active : (s : Scene) (bodies : List BodyState) (touches : List Touch)
    → touches_of (active_points s bodies touches) ≡ filter (is_active_contact s bodies) touches
touches_of_active s bodies = seconds 0
  where
    seconds : (k : ℕ) (ts : List Touch) → touches_of (points_from s bodies k ts) ≡ filter (is_active_contact s bodies) ts
    seconds k [] = refl
    seconds k (t ∷ ts) = by (is_active_contact s bodies t) (seconds (k + 1) ts)
      where
        by : (e : Bool) → touches_of (points_from s bodies (k + 1) ts) ≡ filter (is_active_contact s bodies) ts
            → touches_of (cond e ((k, t) ∷ points_from s bodies (k + 1) ts) (points_from s bodies (k + 1) ts))
            ≡ cond e (t ∷ filter (is_active_contact s bodies) ts) (filter (is_active_contact s bodies) ts)
        by true rest = ap (λ xs. t ∷ xs) rest
        by false rest = rest

module _ (s : Scene) (bodies : List BodyState) (touches : List Touch) (contacts : List Contact) where
  -- what holds of all rows holds of that of each point
  pub row_holds : (P : Row → Type 0) (points : List (ℕ × Touch)) (k : ℕ) (m : ℕ × Touch)
      → All P (active_rows s bodies touches contacts) → points ≡ active_points s bodies touches → k < length points
      → P (row_at s contacts (get_or points k m))
  row_holds P points k m all are within =
      let at = row_at s contacts in
      subst P (get_or-map at points k m)
      (subst (λ ms. All P (map at ms)) (sym are) all k (at m) (omega (arith, length-map points at, within)))

  -- places are within the list of all
  points_within : All (λ (m : ℕ × Touch). m.0 < length touches) (active_points s bodies touches)
  points_within =
      All-weaker (StandsAt touches) (λ (m : ℕ × Touch). m.0 < length touches)
      (λ m stands. slice_get_within touches m.0 m.1 stands) (active_points s bodies touches) (points_stand s bodies touches)

  pub point_low : (points : List (ℕ × Touch)) (k : ℕ) (m : ℕ × Touch) → points ≡ active_points s bodies touches
      → length contacts ≡ length touches → k < length points → m ≡ get_or points k m → m.0 < length contacts
  point_low points k m are same within m_is =
      let inside = subst (All (λ (n : ℕ × Touch). n.0 < length touches)) (sym are) points_within k m within in
      let low : m.0 < length touches = subst (λ (n : ℕ × Touch). n.0 < length touches) (sym m_is) inside in
      omega (arith, same, low)

  -- the rows are in the order of their keys
  pub rows_in_order : AreTouches touches → AreRows (active_rows s bodies touches contacts)
  unfolding row_of
  rows_in_order order =
      let points = active_points s bodies touches in
      let same : map (λ (r : Row). r.entry.touch) (active_rows s bodies touches contacts) ≡ map (λ (m : ℕ × Touch). m.1) points =
      map-map (λ (r : Row). r.entry.touch) (row_at s contacts) points in
      record {
        rising = rw same
            (rw (map-map (λ (t : Touch). rank (key_of t)) (λ (m : ℕ × Touch). m.1) points)
            (points_rise s bodies 0 0 touches order.rising));
        keys = rw same
            (All-map (λ t. IsKey (key_of t)) (λ (m : ℕ × Touch). m.1) points
            (all_points s bodies (λ m. IsKey (key_of m.1)) 0 touches
            (All-weaker (λ t. IsKey (key_of t)) (λ t. is_active_contact s bodies t ≡ true → (i : ℕ) → IsKey (key_of t))
            (λ t key active i. key) touches order.keys)));
      }

  -- where contacts have the keys of the points, each row has the key of the contact at its place
  pub rows_beside : map (λ c. c.key) contacts ≡ map key_of touches → length contacts ≡ length touches → AreTouches touches
      → AreRowsAt contacts (active_rows s bodies touches contacts)
  unfolding row_of
  rows_beside keys same order = record {
    order = rows_in_order order;
    places = All-map (IsRowAt contacts) (row_at s contacts) (active_points s bodies touches)
        (All-weaker (StandsAt touches) (λ (m : ℕ × Touch). IsRowAt contacts (row_at s contacts m)) at
        (active_points s bodies touches) (points_stand s bodies touches));
  }
    where
      at : (m : ℕ × Touch) → StandsAt touches m → IsRowAt contacts (row_at s contacts m)
      at m stands = record {
        within = omega (arith, same, slice_get_within touches m.0 m.1 stands);
        key = sym (get_or-map (λ (c : Contact). c.key) contacts m.0 no_contact)
            ∙ ap (λ ks. get_or ks m.0 no_contact.key) keys
            ∙ get_or-mapped key_of touches m.0 m.1 no_contact.key (slice_get_within touches m.0 m.1 stands)
            ∙ ap key_of (get_or_from_slice_get touches m.0 m.1 m.1 stands);
      }

  side_is : (n number : ℕ) → number < n → IsSide n (side_of s number)
  side_is n number within = by (is_static_at s number)
    where
      by : (e : Bool) → IsSide n (if e then Static else Dynamic number)
      by true = tt
      by false = within

  sides_apart : (a b : ℕ) → a < b → AreApart (side_of s a) (side_of s b)
  sides_apart a b less = by (is_static_at s a) (is_static_at s b)
    where
      by : (d e : Bool) → AreApart (if d then Static else Dynamic a) (if e then Static else Dynamic b)
      by true e = tt
      by false true = tt
      by false false = λ same. omega (arith, same, less)

  row_fits : (place : ℕ) (t : Touch) (c : Contact) → length bodies ≡ length s.fixtures → IsTouchOf (length bodies) t
      → IsRowOf s (length bodies) (row_of s place t c)
  unfolding row_of
  row_fits place t c paired is = record {
    first = omega (arith, is.0, is.1, paired);
    second = omega (arith, is.1, paired);
    sides = record {
      first = side_is (length bodies) t.a (omega (arith, is.0, is.1));
      second = side_is (length bodies) t.b is.1;
      apart = sides_apart t.a t.b is.0;
    };
  }

  -- the rows are of bodies of the scene
  pub rows_fit : length bodies ≡ length s.fixtures → All (IsTouchOf (length bodies)) touches
      → All (IsRowOf s (length bodies)) (active_rows s bodies touches contacts)
  rows_fit paired of =
      all_rows s bodies (IsRowOf s (length bodies)) touches contacts
      (All-weaker (IsTouchOf (length bodies)) (HoldsWhere s bodies (IsRowOf s (length bodies)))
      (λ t is active place c. row_fits place t c paired is) touches of)

-- ---- flags

-- a body that is not awake is not simulated
pub asleep_not_simulated : (s : Scene) (bodies : List BodyState) (k : ℕ) → is_awake_at bodies k ≡ false
    → is_simulated_at s bodies k ≡ false
asleep_not_simulated s bodies k asleep = ap (λ t. not (is_static_at s k) && t) asleep ∙ and_false (not (is_static_at s k))
  where
    and_false : (t : Bool) → (t && false) ≡ false
    and_false true = refl
    and_false false = refl

-- the flag of a body
pub flag_at : (s : Scene) (bodies : List BodyState) (k : ℕ)
    → get_or (simulated_flags s bodies) k false ≡ is_simulated_at s bodies k
flag_at s bodies k =
    ⊎_elim
    (λ within. get_or-map-range_with_len (is_simulated_at s bodies) 0 (length bodies) k k false within (omega arith))
    (λ beyond.
    get_or-eq_default (simulated_flags s bodies) false
    (let long = length-map-range_with_len (is_simulated_at s bodies) 0 (length bodies) in omega (arith, long, beyond))
    ∙ sym (asleep_not_simulated s bodies k (ap (λ (b : BodyState). b.awake) (get_or-eq_default bodies no_state beyond))))
    (cases_lt k (length bodies))

-- tests that agree choose the same
filter_agree : {X : Type 0} (p q : X → Bool) → ((x : X) → p x ≡ q x) → (xs : List X) → filter p xs ≡ filter q xs
filter_agree p q agree [] = refl
filter_agree p q agree (x ∷ xs) = ap₂ (λ e rest. cond e (x ∷ rest) rest) (agree x) (filter_agree p q agree xs)

-- the contact points with a flag of a simulated body are those that are simulated
pub flagged_are_active : (s : Scene) (bodies : List BodyState) (touches : List Touch)
    → flagged_points (simulated_flags s bodies) touches ≡ active_points s bodies touches
unfolding is_active_contact
flagged_are_active s bodies touches =
    filter_agree (λ (m : ℕ × Touch). is_flagged (simulated_flags s bodies) m.1)
    (λ (m : ℕ × Touch). is_active_contact s bodies m.1)
    (λ m. ap₂ (λ x y. x || y) (flag_at s bodies m.1.a) (flag_at s bodies m.1.b)) (enumerate_from 0 touches)

-- where no body is awake, no contact point is simulated
pub none_active : (s : Scene) (bodies : List BodyState) (touches : List Touch)
    → ((k : ℕ) → is_awake_at bodies k ≡ false) → active_points s bodies touches ≡ []
unfolding is_active_contact
none_active s bodies touches asleep =
    filter_agree (λ (m : ℕ × Touch). is_active_contact s bodies m.1) (λ m. false)
    (λ m. ap₂ (λ x y. x || y) (none m.1.a) (none m.1.b)) (enumerate_from 0 touches)
    ∙ nothing (enumerate_from 0 touches)
  where
    none : (k : ℕ) → is_simulated_at s bodies k ≡ false
    none k = asleep_not_simulated s bodies k (asleep k)

    nothing : (ms : List (ℕ × Touch)) → filter (λ (m : ℕ × Touch). false) ms ≡ []
    nothing [] = refl
    nothing (m ∷ ms) = nothing ms

-- where all flags are set, all contact points have one
pub all_flagged : (flags : List Bool) (points : List (ℕ × Touch)) (touches : List Touch) → All (λ e. e ≡ true) flags
    → All (IsTouchOf (length flags)) touches → points ≡ flagged_points flags touches → touches_of points ≡ touches
all_flagged flags points touches set all are = ap touches_of are ∙ every 0 touches all
  where
    chosen : ℕ → List Touch → List (ℕ × Touch)
    chosen k ts = filter (λ (m : ℕ × Touch). is_flagged flags m.1) (enumerate_from k ts)

    every : (k : ℕ) (ts : List Touch) → All (IsTouchOf (length flags)) ts → touches_of (chosen k ts) ≡ ts
    every k [] of = refl
    every k (t ∷ ts) of =
        let is = All-head (IsTouchOf (length flags)) t ts of in
        ap (λ e. touches_of (cond (e || get_or flags t.b false) ((k, t) ∷ chosen (k + 1) ts) (chosen (k + 1) ts)))
        (set t.a false (omega (arith, is.0, is.1)))
        ∙ ap (λ xs. t ∷ xs) (every (k + 1) ts (All-tail (IsTouchOf (length flags)) t ts of))

-- what holds of contact points holds with their places
pub of_points : (P : Touch → Type 0) (points : List (ℕ × Touch)) → All P (touches_of points) → All (λ (m : ℕ × Touch). P m.1) points
of_points P points all =
    λ i d within.
    let second : ℕ × Touch → Touch = λ m. m.1 in
    subst P (get_or-map second points i d) (all i d.1 (omega (arith, length-map points second, within)))

-- what holds of all contact points holds of those that are simulated
pub of_active : (s : Scene) (bodies : List BodyState) (touches : List Touch) (points : List (ℕ × Touch)) (P : Touch → Type 0)
    → points ≡ active_points s bodies touches → All P touches → All (λ (m : ℕ × Touch). P m.1) points
of_active s bodies touches points P are all =
    of_points P points
    (subst (All P) (sym (ap touches_of are ∙ touches_of_active s bodies touches))
    (All-filter (is_active_contact s bodies) P touches all))
