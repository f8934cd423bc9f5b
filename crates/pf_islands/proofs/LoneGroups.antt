-- The groups of a tick that have contacts, and the bodies of the others, each of which is alone.
use Rattle.std.proofs.Common.{◌≡◌, ◌≢◌, ◌∙◌, ⊎_elim, ℕ, zero, suc, ◌+◌, ◌<◌, ◌≤◌, ◌==◌, Bool, true, false, not, ◌&&◌, ◌||◌, cond, List, [], ◌∷◌, ◌++◌, Some, filter, get_or, length, map, refl, sym, ap, ap₂, subst, arith, slice_get, if◌then◌else◌}
use Rattle.std.proofs.lemmas.Bool.{and_from, and_parts, eq-eqb, eqb-true, false_from_ne_true, ne_eqb, true≢false}
use Rattle.std.proofs.lemmas.List.Elements.{All-cons, All-filter, All-head, All-nil, All-tail, All-weaker}
use Rattle.std.specs.List.{enumerate_from, flat_map, list_any, range_with_len}
use Rattle.std.specs.Prelude.{All}
use Rattle.pf_shapes.specs.Body.{BodyState}
use Rattle.pf_shapes.specs.Scene.{Scene, is_static_at}
use Rattle.pf_manifold.specs.Touches.{IsTouchOf, Touch}
use Rattle.pf_cache.specs.Contact.{Contact, no_contact}
use Rattle.pf_rows.specs.declared.row.Side.TheVariants.{Static, Dynamic}
use Rattle.pf_cache.proofs.ChosenNumbers.{chosen_pass, range_within}
use Rattle.pf_islands.specs.Dealing.{group_of_row, group_of_sides}
use Rattle.pf_islands.specs.Flags.{awake_numbers}
use Rattle.pf_islands.specs.Group.{group, groups}
use Rattle.pf_islands.specs.Island.{group_members}
use Rattle.pf_islands.specs.Lone.{group_of_touch, only_awake}
use Rattle.pf_islands.specs.Reach.{AreNeighbours, IsChain, connects}
use Rattle.pf_islands.specs.Rows.{active_points, active_rows, is_active_contact, is_awake_at, row_of, side_of}
use Rattle.pf_islands.specs.Settled.{AreSettled}
use Rattle.pf_islands.specs.Split.{active_labels, is_active_label}
use Rattle.pf_islands.proofs.Chains.{reaches_name}
use Rattle.pf_islands.proofs.Elements.{all_at, all_from}
use Rattle.pf_islands.proofs.Lone.{filter_twice, seen_awake}
use Rattle.pf_islands.proofs.SettledGroups.{filter_same}
use Rattle.pf_islands.proofs.Starting.{groups_long, groups_named}
use Rattle.pf_islands.proofs.Together.{name_of, one_group}

-- ---- elements

-- an element that passes is one
any_at : {X : Type 0} (p : X → Bool) (xs : List X) (i : ℕ) (x : X) → slice_get xs i ≡ Some x → p x ≡ true
    → list_any p xs ≡ true
any_at p [] i x here passes = absurd cc
any_at p (y ∷ xs) zero x here passes =
    let is : y ≡ x = cc in
    ap (λ t. t || list_any p xs) (ap p is ∙ passes)
any_at p (y ∷ xs) (suc i) x here passes = ap (λ t. p y || t) (any_at p xs i x here passes) ∙ or_true (p y)
  where
    or_true : (t : Bool) → (t || true) ≡ true
    or_true true = refl
    or_true false = refl

-- what holds of all chosen elements
all_chosen : {X : Type 0} (P : X → Type 0) (p : X → Bool) (xs : List X) → All P (filter p xs) → All (λ x. p x ≡ true → P x) xs
all_chosen P p [] all = All-nil (λ x. p x ≡ true → P x)
all_chosen P p (x ∷ xs) all = by (p x) refl all (all_chosen P p xs)
  where
    by : (e : Bool) → p x ≡ e → All P (cond e (x ∷ filter p xs) (filter p xs))
        → (All P (filter p xs) → All (λ y. p y ≡ true → P y) xs) → All (λ y. p y ≡ true → P y) (x ∷ xs)
    by true is h rest =
        All-cons (λ y. p y ≡ true → P y) x xs (λ chosen. All-head P x (filter p xs) h) (rest (All-tail P x (filter p xs) h))
    by false is h rest =
        All-cons (λ y. p y ≡ true → P y) x xs (λ chosen. absurd (true≢false (sym chosen ∙ is))) (rest h)

all_counted : {X : Type 0} (P : X → Type 0) (k : ℕ) (xs : List X) → All P xs → All (λ m. P m.1) (enumerate_from k xs)
all_counted P k [] all = All-nil (λ m. P m.1)
all_counted P k (x ∷ xs) all =
    All-cons (λ m. P m.1) (k, x) (enumerate_from (k + 1) xs) (All-head P x xs all)
    (all_counted P (k + 1) xs (All-tail P x xs all))

-- one number of a range
none_below : (n from more : ℕ) → n < from → filter (λ k. k == n) (range_with_len from more) ≡ []
none_below n from zero above = refl
none_below n from (suc more) above =
    ap (λ e. cond e (from ∷ filter (λ k. k == n) (range_with_len (from + 1) more)) (filter (λ k. k == n) (range_with_len (from + 1) more)))
    (ne_eqb from n (λ same. omega (arith, same, above)))
    ∙ none_below n (from + 1) more (omega (arith, above))

one_number : (n start count : ℕ) → start ≤ n → n < start + count → filter (λ k. k == n) (range_with_len start count) ≡ n ∷ []
one_number n start zero low high = absurd (omega (arith, low, high))
one_number n start (suc count) low high =
    by (start == n) refl (λ above. one_number n (start + 1) count above (omega (arith, high)))
  where
    rest : List ℕ
    rest = filter (λ k. k == n) (range_with_len (start + 1) count)

    by : (e : Bool) → (start == n) ≡ e → (start + 1 ≤ n → rest ≡ n ∷ []) → cond e (start ∷ rest) rest ≡ n ∷ []
    by true is others =
        let same = eqb-true start n is in
        ap₂ (λ m ns. m ∷ ns) same (none_below n (start + 1) count (omega (arith, same)))
    by false other others =
        let apart : start ≢ n = λ same. true≢false (sym (eq-eqb start n same) ∙ other) in
        others (omega (arith, low, apart))

-- ---- groups of one body

pub negated : (d : Bool) → not d ≡ true → d ≡ false
negated true e = absurd (true≢false (sym e))
negated false e = refl

module _ (s : Scene) (labels : List ℕ) where
  -- the group of a contact point is that of its first body, where this is dynamic, and else of the other
  first_of : (t : Touch) → is_static_at s t.a ≡ false → group_of_touch s labels t ≡ get_or labels t.a 0
  first_of t moves = ap (λ d. group_of_sides labels (if d then Static else Dynamic t.a) (side_of s t.b)) moves

  second_of : (t : Touch) → is_static_at s t.a ≡ true → is_static_at s t.b ≡ false → group_of_touch s labels t ≡ get_or labels t.b 0
  second_of t stands moves =
      ap₂ (λ d e. group_of_sides labels (if d then Static else Dynamic t.a) (if e then Static else Dynamic t.b)) stands moves

  -- a contact that connects its bodies has both in one group
  abbrev IsJoined : Touch → Type 0
  IsJoined t = connects s t ≡ true → get_or labels t.a 0 ≡ get_or labels t.b 0

  -- a body with a neighbour is of the group of a contact point
  neighbour_counts : (ts : List Touch) (i c : ℕ) → All IsJoined ts → AreNeighbours s ts i c
      → list_any (λ t. group_of_touch s labels t == get_or labels i 0) ts ≡ true
  neighbour_counts [] i c same h = absurd h
  neighbour_counts (t ∷ ts) i c same h =
      ⊎_elim
      (λ here.
      let moves = negated (is_static_at s t.a) (and_parts (not (is_static_at s t.a)) (not (is_static_at s t.b)) here.0).0 in
      ap (λ e. e || list_any (λ u. group_of_touch s labels u == get_or labels i 0) ts)
      (eq-eqb (group_of_touch s labels t) (get_or labels i 0)
      (first_of t moves
      ∙ ⊎_elim (λ own. ap (λ n. get_or labels n 0) own.0)
      (λ own. All-head IsJoined t ts same here.0 ∙ ap (λ n. get_or labels n 0) own.1) here.1)))
      (λ rest.
      ap (λ e. (group_of_touch s labels t == get_or labels i 0) || e) (neighbour_counts ts i c (All-tail IsJoined t ts same) rest)
      ∙ or_true (group_of_touch s labels t == get_or labels i 0))
      h
    where
      or_true : (e : Bool) → (e || true) ≡ true
      or_true true = refl
      or_true false = refl

module _ (s : Scene) (touches : List Touch) (of : All (IsTouchOf (length s.fixtures)) touches) where
  joined : All (IsJoined s (groups s touches)) touches
  joined =
      all_from (IsJoined s (groups s touches)) touches
      (λ i t here joins.
      let is = all_at (IsTouchOf (length s.fixtures)) touches i t of here in
      let moves = and_parts (not (is_static_at s t.a)) (not (is_static_at s t.b)) joins in
      name_of s touches t.a (omega (arith, is.0, is.1))
      ∙ one_group s touches i t here (negated (is_static_at s t.a) moves.0) (negated (is_static_at s t.b) moves.1)
      ∙ sym (name_of s touches t.b is.1))

  -- a body in a group without contact points is the group
  own_group : (i : ℕ) → i < length s.fixtures
      → list_any (λ t. group_of_touch s (groups s touches) t == get_or (groups s touches) i 0) touches ≡ false
      → get_or (groups s touches) i 0 ≡ i
  own_group i within none = by (reaches_name s touches i).0 (reaches_name s touches i).1
    where
      by : (chain : List ℕ) → IsChain s touches i chain (group s touches i) → get_or (groups s touches) i 0 ≡ i
      by [] same = name_of s touches i within ∙ sym same
      by (c ∷ chain) along =
          absurd (true≢false (sym (neighbour_counts s (groups s touches) touches i c joined along.0) ∙ none))

-- ---- the groups of a tick

module _ (s : Scene) (bodies : List BodyState) (touches : List Touch) (count : length bodies ≡ length s.fixtures)
    (settled : AreSettled s bodies touches) (of : All (IsTouchOf (length bodies)) touches) where
  abbrev act : Touch → Bool
  act t = is_active_contact s bodies t

  abbrev chosen : List Touch
  chosen = filter act touches

  abbrev labels : List ℕ
  labels = groups s chosen

  abbrev pub has_touch : ℕ → Bool
  has_touch label = list_any (λ t. group_of_touch s labels t == label) chosen

  of_chosen : All (IsTouchOf (length s.fixtures)) chosen
  of_chosen = subst (λ n. All (IsTouchOf n) chosen) count (All-filter act (IsTouchOf (length bodies)) touches of)

  long : length labels ≡ length s.fixtures
  long = groups_long s chosen

  low : (i : ℕ) → i < length s.fixtures → get_or labels i 0 < length labels
  low i within = groups_named s chosen i 0 (omega (arith, within, long))

  -- the rows of a group are those of its contact points
  pub rows_of_group : (contacts : List Contact) (label : ℕ)
      → list_any (λ r. group_of_row labels r == label) (active_rows s bodies touches contacts) ≡ has_touch label
  unfolding row_of
  rows_of_group contacts label =
      mapped (active_points s bodies touches) ∙ counted 0 touches
    where
      mapped : (ms : List (ℕ × Touch))
          → list_any (λ r. group_of_row labels r == label) (map (λ m. row_of s m.0 m.1 (get_or contacts m.0 no_contact)) ms)
          ≡ list_any (λ m. group_of_touch s labels m.1 == label) ms
      mapped [] = refl
      mapped (m ∷ ms) = ap (λ e. (group_of_touch s labels m.1 == label) || e) (mapped ms)

      counted : (k : ℕ) (ts : List Touch)
          → list_any (λ m. group_of_touch s labels m.1 == label) (filter (λ m. act m.1) (enumerate_from k ts))
          ≡ list_any (λ t. group_of_touch s labels t == label) (filter act ts)
      counted k [] = refl
      counted k (t ∷ ts) = by (act t) (counted (k + 1) ts)
        where
          by : (e : Bool)
              → list_any (λ m. group_of_touch s labels m.1 == label) (filter (λ m. act m.1) (enumerate_from (k + 1) ts))
              ≡ list_any (λ u. group_of_touch s labels u == label) (filter act ts)
              → list_any (λ m. group_of_touch s labels m.1 == label)
              (cond e ((k, t) ∷ filter (λ m. act m.1) (enumerate_from (k + 1) ts)) (filter (λ m. act m.1) (enumerate_from (k + 1) ts)))
              ≡ list_any (λ u. group_of_touch s labels u == label) (cond e (t ∷ filter act ts) (filter act ts))
          by true rest = ap (λ e. (group_of_touch s labels t == label) || e) rest
          by false rest = rest

  -- some groups, among them all with contact points
  module _ (q : ℕ → Bool) (numbers : List ℕ) (are : numbers ≡ filter (λ n. q (get_or labels n 0)) (awake_numbers bodies))
      (has : (label : ℕ) → label < length labels → has_touch label ≡ true → q label ≡ true) where
    abbrev seen : List BodyState
    seen = only_awake numbers bodies

    -- the dynamic bodies of a contact are of these groups
    abbrev AreOfThese : Touch → Type 0
    AreOfThese t =
        (is_static_at s t.a ≡ false → q (get_or labels t.a 0) ≡ true)
        × (is_static_at s t.b ≡ false → q (get_or labels t.b 0) ≡ true)

    of_these : All (λ t. act t ≡ true → AreOfThese t) touches
    of_these =
        all_chosen AreOfThese act touches
        (all_from AreOfThese chosen
        (λ i t here.
        let is = all_at (IsTouchOf (length s.fixtures)) chosen i t of_chosen here in
        let same = λ (u : Touch). group_of_touch s labels u == group_of_touch s labels t in
        let some = any_at same chosen i t here (eq-eqb (group_of_touch s labels t) (group_of_touch s labels t) refl) in
        let passes = λ (n : ℕ) (inside : n < length s.fixtures) (own : group_of_touch s labels t ≡ get_or labels n 0).
        has (get_or labels n 0) (low n inside) (ap has_touch (sym own) ∙ some) in
        let a_in : t.a < length s.fixtures = omega (arith, is.0, is.1) in (
          λ moves. passes t.a a_in (first_of s labels t moves),
          λ moves. second t passes is.1 (all_at (IsJoined s labels) chosen i t (joined s chosen of_chosen) here) moves,
        )))
      where
        second : (t : Touch)
            → ((n : ℕ) → n < length s.fixtures → group_of_touch s labels t ≡ get_or labels n 0 → q (get_or labels n 0) ≡ true)
            → t.b < length s.fixtures → IsJoined s labels t → is_static_at s t.b ≡ false → q (get_or labels t.b 0) ≡ true
        second t passes within one moves = by (is_static_at s t.a) refl
          where
            by : (d : Bool) → is_static_at s t.a ≡ d → q (get_or labels t.b 0) ≡ true
            by true stands = passes t.b within (second_of s labels t stands moves)
            by false also =
                let joins : connects s t ≡ true = and_from _ _ (ap not also) (ap not moves) in
                passes t.b within (first_of s labels t also ∙ one joins)

    -- so the same contacts are simulated where only bodies of these groups are awake
    pub same_act : All (λ t. is_active_contact s seen t ≡ is_active_contact s bodies t) touches
    unfolding is_active_contact
    same_act =
        All-weaker (λ t. act t ≡ true → AreOfThese t) (λ t. is_active_contact s seen t ≡ is_active_contact s bodies t)
        (λ t. one t) touches of_these
      where
        by : (c d x y u v : Bool)
            → (((not c && x) || (not d && y)) ≡ true → (c ≡ false → u ≡ true) × (d ≡ false → v ≡ true))
            → ((not c && (x && u)) || (not d && (y && v))) ≡ ((not c && x) || (not d && y))
        by true true x y u v h = refl
        by true false x true u v h = (h refl).1 refl
        by true false x false u v h = refl
        by false true true y u v h = ap (λ e. e || false) ((h refl).0 refl)
        by false true false y u v h = refl
        by false false true y u v h = ap (λ e. e || (y && v)) ((h refl).0 refl)
        by false false false true u v h = (h refl).1 refl
        by false false false false u v h = refl

        one : (t : Touch) → (act t ≡ true → AreOfThese t) → is_active_contact s seen t ≡ is_active_contact s bodies t
        one t fact =
            ap₂ (λ x y. (not (is_static_at s t.a) && x) || (not (is_static_at s t.b) && y))
            (seen_awake labels bodies q numbers are t.a) (seen_awake labels bodies q numbers are t.b)
            ∙ by (is_static_at s t.a) (is_static_at s t.b) (is_awake_at bodies t.a) (is_awake_at bodies t.b)
            (q (get_or labels t.a 0)) (q (get_or labels t.b 0)) fact

    pub same_points : active_points s seen touches ≡ active_points s bodies touches
    same_points =
        filter_same (λ m. is_active_contact s seen m.1) (λ m. is_active_contact s bodies m.1) (enumerate_from 0 touches)
        (all_counted (λ t. is_active_contact s seen t ≡ is_active_contact s bodies t) 0 touches same_act)

    pub same_rows : (contacts : List Contact) → active_rows s seen touches contacts ≡ active_rows s bodies touches contacts
    same_rows contacts = ap (map (λ m. row_of s m.0 m.1 (get_or contacts m.0 no_contact))) same_points

    -- and they wake no body
    pub still_settled : AreSettled s seen touches
    still_settled = λ i d within active.
        let t = get_or touches i d in
        let acts : act t ≡ true = sym (same_act i d within) ∙ active in
        ap₂ (λ x y. not (connects s t) || (x && y))
        (seen_awake labels bodies q numbers are t.a) (seen_awake labels bodies q numbers are t.b)
        ∙ by (is_static_at s t.a) (is_static_at s t.b) (is_awake_at bodies t.a) (is_awake_at bodies t.b)
        (q (get_or labels t.a 0)) (q (get_or labels t.b 0)) (of_these i d within acts) (settled i d within acts)
      where
        by : (c d x y u v : Bool) → (c ≡ false → u ≡ true) × (d ≡ false → v ≡ true)
            → (not (not c && not d) || (x && y)) ≡ true → (not (not c && not d) || ((x && u) && (y && v))) ≡ true
        by true d x y u v f h = refl
        by false true x y u v f h = refl
        by false false x y u v f h =
            let both = and_parts x y h in
            and_from _ _ (and_from _ _ both.0 (f.0 refl)) (and_from _ _ both.1 (f.1 refl))

  -- ---- the other groups

  module _ (q : ℕ → Bool) (has : (label : ℕ) → label < length labels → has_touch label ≡ true → q label ≡ true) where
    -- a body of another group is the group
    unjoined : (i : ℕ) → i < length s.fixtures → q (get_or labels i 0) ≡ false → get_or labels i 0 ≡ i
    unjoined i within other =
        own_group s chosen of_chosen i within
        (false_from_ne_true (has_touch (get_or labels i 0))
        (λ some. true≢false (sym (has (get_or labels i 0) (low i within) some) ∙ other)))

    pub lone_members : (label : ℕ) → label < length s.fixtures → get_or labels label 0 ≡ label → q label ≡ false
        → group_members labels label ≡ label ∷ []
    lone_members label within own other =
        filter_same (λ k. get_or labels k 0 == label) (λ k. k == label) (range_with_len 0 (length labels))
        (λ i d inside.
        let k = get_or (range_with_len 0 (length labels)) i d in
        let small = range_within 0 (length labels) (length labels) (omega arith) i d inside in
        by k (omega (arith, small, long)) (get_or labels k 0 == label) refl)
        ∙ one_number label 0 (length labels) (omega arith) (omega (arith, within, long))
      where
        by : (k : ℕ) → k < length s.fixtures → (e : Bool) → (get_or labels k 0 == label) ≡ e
            → (get_or labels k 0 == label) ≡ (k == label)
        by k small true is =
            let same = eqb-true (get_or labels k 0) label is in
            is ∙ sym (eq-eqb k label (sym (unjoined k small (ap q same ∙ other)) ∙ same))
        by k small false is =
            is
            ∙ sym
            (ne_eqb k label
            (λ same. true≢false (sym (eq-eqb (get_or labels k 0) label (ap (λ n. get_or labels n 0) same ∙ own)) ∙ is)))

    -- the awake bodies of the other groups
    pub lone_are : filter (λ n. not (q (get_or labels n 0))) (awake_numbers bodies)
        ≡ flat_map (group_members labels) (filter (λ label. not (q label)) (active_labels labels bodies))
    lone_are =
        filter_twice (is_awake_at bodies) (λ n. not (q (get_or labels n 0))) (range_with_len 0 (length bodies))
        ∙ ap (λ n. filter (λ k. is_awake_at bodies k && not (q (get_or labels k 0))) (range_with_len 0 n)) (count ∙ sym long)
        ∙ filter_same (λ k. is_awake_at bodies k && not (q (get_or labels k 0))) (λ k. is_active_label labels bodies k && not (q k))
        (range_with_len 0 (length labels))
        (λ i d inside.
        let k = get_or (range_with_len 0 (length labels)) i d in
        let small = range_within 0 (length labels) (length labels) (omega arith) i d inside in
        by k (omega (arith, small, long)) (get_or labels k 0 == k) refl (is_awake_at bodies k))
        ∙ sym (filter_twice (is_active_label labels bodies) (λ k. not (q k)) (range_with_len 0 (length labels)))
        ∙ sym (singles others (λ i d inside.
        let label = get_or others i d in
        let active = All-filter (λ k. not (q k)) (λ k. is_active_label labels bodies k ≡ true) (active_labels labels bodies)
        (chosen_pass (is_active_label labels bodies) (range_with_len 0 (length labels))) i d inside in
        let small = All-filter (λ k. not (q k)) (λ k. k < length labels) (active_labels labels bodies)
        (All-filter (is_active_label labels bodies) (λ k. k < length labels) (range_with_len 0 (length labels))
        (range_within 0 (length labels) (length labels) (omega arith))) i d inside in
        lone_members label (omega (arith, small, long))
        (eqb-true (get_or labels label 0) label (and_parts (get_or labels label 0 == label) (is_awake_at bodies label) active).0)
        (negated (q label) (chosen_pass (λ k. not (q k)) (active_labels labels bodies) i d inside))))
      where
        others : List ℕ
        others = filter (λ k. not (q k)) (active_labels labels bodies)

        singles : (ns : List ℕ) → All (λ n. group_members labels n ≡ n ∷ []) ns → flat_map (group_members labels) ns ≡ ns
        singles [] all = refl
        singles (n ∷ ns) all =
            ap₂ (λ xs ys. xs ++ ys) (All-head (λ m. group_members labels m ≡ m ∷ []) n ns all)
            (singles ns (All-tail (λ m. group_members labels m ≡ m ∷ []) n ns all))

        by : (k : ℕ) → k < length s.fixtures → (e : Bool) → (get_or labels k 0 == k) ≡ e → (a : Bool)
            → (a && not (q (get_or labels k 0))) ≡ (((get_or labels k 0 == k) && a) && not (q k))
        by k small true own a =
            ap (λ n. a && not (q n)) (eqb-true (get_or labels k 0) k own) ∙ ap (λ e. (e && a) && not (q k)) (sym own)
        by k small false apart a =
            ap (λ e. a && not e) (passes (q (get_or labels k 0)) refl) ∙ and_false a
            ∙ ap (λ e. (e && a) && not (q k)) (sym apart)
          where
            and_false : (e : Bool) → (e && false) ≡ false
            and_false true = refl
            and_false false = refl

            passes : (e : Bool) → q (get_or labels k 0) ≡ e → q (get_or labels k 0) ≡ true
            passes true is = is
            passes false is = absurd (true≢false (sym (eq-eqb (get_or labels k 0) k (unjoined k small is)) ∙ apart))
