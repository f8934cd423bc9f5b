-- Islands put back into their world.
use Rattle.std.proofs.Common.{◌≡◌, ◌∙◌, ℕ, zero, suc, ◌<◌, ◌==◌, Bool, true, false, ◌||◌, List, [], ◌∷◌, length, map, filter, get_or, set, cond, refl, sym, ap, ap₂, arith, if◌then◌else◌}
use Rattle.std.proofs.lemmas.Bool.{ne_eqb, true≢false}
use Rattle.std.proofs.lemmas.Bool.Decides.{Decides-eqb}
use Rattle.std.proofs.lemmas.List.{get_or-set_other, get_or-set_same, length-map}
use Rattle.std.proofs.lemmas.List.Elements.{All-head, All-tail, All-weaker}
use Rattle.std.proofs.lemmas.Simd.{map-map}
use Rattle.std.proofs.Math.ListN.{get_or-map}
use Rattle.std.specs.List.{list_any, zip}
use Rattle.std.specs.Prelude.{All, fold}
use Rattle.pf_shapes.specs.Body.{BodyState, no_state}
use Rattle.pf_manifold.specs.Key.{IsRising, rank}
use Rattle.pf_rows.specs.Impulses.{Impulses}
use Rattle.pf_cache.specs.Contact.{Contact, no_contact}
use Rattle.pf_rows.specs.Row.{AreRows, Row, impulses_or}
use Rattle.pf_cache.specs.ContactRows.{AreRowsAt, IsRowAt, with_rows}
use Rattle.pf_cache.proofs.FoundRows.{row_rank, rows_rise}
use Rattle.pf_islands.specs.Island.{has_number, row_among, rows_among, states_of, touches_one}
use Rattle.pf_islands.specs.Join.{joined_bodies, joined_contacts, with_states}
use Rattle.pf_islands.specs.Split.{Island}

-- ---- keys

-- what rows have accumulated changes no key
pub with_rows_keys : (contacts : List Contact) (rows : List Row)
    → map (λ (c : Contact). c.key) (with_rows contacts rows) ≡ map (λ (c : Contact). c.key) contacts
unfolding with_rows
with_rows_keys contacts rows = map-map _ _ contacts

-- rows that stand at contacts stand at contacts of the same keys
pub rows_at_same_keys : (old now : List Contact) (rows : List Row)
    → map (λ (c : Contact). c.key) now ≡ map (λ (c : Contact). c.key) old → AreRowsAt old rows → AreRowsAt now rows
rows_at_same_keys old now rows same are = record {
  order = are.order;
  places = All-weaker (IsRowAt old) (IsRowAt now)
      (λ r is. record {
        within = omega (arith, is.within, ap length same, length-map old (λ (c : Contact). c.key), length-map now (λ (c : Contact). c.key));
        key = sym (get_or-map (λ (c : Contact). c.key) now r.entry.place no_contact)
            ∙ ap (λ ks. get_or ks r.entry.place no_contact.key) same
            ∙ get_or-map (λ (c : Contact). c.key) old r.entry.place no_contact
            ∙ is.key;
      })
      rows are.places;
}

-- ---- bodies

set_long : {X : Type 0} (xs : List X) (i : ℕ) (x : X) → length (set xs i x) ≡ length xs
set_long [] i x = refl
set_long (y ∷ ys) zero x = refl
set_long (y ∷ ys) (suc i) x = ap suc (set_long ys i x)

put_long : (numbers : List ℕ) (states bodies : List BodyState)
    → length (fold (λ bs m. set bs m.0 m.1) bodies (zip numbers states)) ≡ length bodies
put_long [] states bodies = refl
put_long (n ∷ numbers) [] bodies = refl
put_long (n ∷ numbers) (b ∷ states) bodies = put_long numbers states (set bodies n b) ∙ set_long bodies n b

-- no body goes away
pub joined_long : (islands : List Island) (bodies : List BodyState) → length (joined_bodies islands bodies) ≡ length bodies
joined_long [] bodies = refl
joined_long (i ∷ islands) bodies = joined_long islands (with_states i bodies) ∙ put_long i.numbers i.bodies bodies

-- lists with the same reads are the same
same_reads : (xs ys : List BodyState) → length xs ≡ length ys
    → ((j : ℕ) → j < length xs → get_or xs j no_state ≡ get_or ys j no_state) → xs ≡ ys
same_reads [] [] long same = refl
same_reads [] (y ∷ ys) long same = absurd (omega (arith, long))
same_reads (x ∷ xs) [] long same = absurd (omega (arith, long))
same_reads (x ∷ xs) (y ∷ ys) long same =
    ap₂ (λ b bs. b ∷ bs) (same 0 (omega arith))
    (same_reads xs ys (omega (arith, long)) (λ j within. same (suc j) (omega (arith, within))))

-- states that are read from a list of bodies are written back
put_at : (bodies final : List BodyState) (numbers : List ℕ) (j : ℕ) → j < length bodies
    → get_or (fold (λ bs m. set bs m.0 m.1) bodies (zip numbers (states_of numbers final))) j no_state
    ≡ (if has_number numbers j then get_or final j no_state else get_or bodies j no_state)
put_at bodies final [] j within = refl
put_at bodies final (n ∷ numbers) j within =
    put_at (set bodies n state) final numbers j (omega (arith, within, set_long bodies n state))
    ∙ by (has_number numbers j) (n == j) refl
  where
    state : BodyState
    state = get_or final n no_state

    by : (h e : Bool) → (n == j) ≡ e
        → (if h then get_or final j no_state else get_or (set bodies n state) j no_state)
        ≡ (if e || h then get_or final j no_state else get_or bodies j no_state)
    by true true same = refl
    by true false other = refl
    by false true same =
        let is : n ≡ j = (Decides-eqb n j).0 same in
        ap (λ i. get_or (set bodies i (get_or final i no_state)) j no_state) is
        ∙ get_or-set_same bodies j (get_or final j no_state) no_state within
    by false false other =
        get_or-set_other bodies n j state no_state
        (λ is. true≢false (sym ((Decides-eqb n j).1 (sym is)) ∙ other))

-- each number of the islands has what it has in a list from which their states were read
joined_at : (final : List BodyState) (islands : List Island) (bodies : List BodyState) (j : ℕ) → j < length bodies
    → All (λ (i : Island). i.bodies ≡ states_of i.numbers final) islands
    → get_or (joined_bodies islands bodies) j no_state
    ≡ (if list_any (λ (i : Island). has_number i.numbers j) islands then get_or final j no_state else get_or bodies j no_state)
joined_at final [] bodies j within are = refl
joined_at final (i ∷ islands) bodies j within are =
    ap (λ ss. get_or (joined_bodies islands (fold (λ bs m. set bs m.0 m.1) bodies (zip i.numbers ss))) j no_state)
    (All-head HasStates i islands are)
    ∙ joined_at final islands (put i.numbers) j (omega (arith, within, put_long i.numbers (states_of i.numbers final) bodies))
    (All-tail HasStates i islands are)
    ∙ ap (λ b. if list_any (λ (x : Island). has_number x.numbers j) islands then get_or final j no_state else b)
    (put_at bodies final i.numbers j within)
    ∙ by (list_any (λ (x : Island). has_number x.numbers j) islands) (has_number i.numbers j)
  where
    HasStates : Island → Type 0
    HasStates x = x.bodies ≡ states_of x.numbers final

    put : List ℕ → List BodyState
    put numbers = fold (λ bs m. set bs m.0 m.1) bodies (zip numbers (states_of numbers final))

    by : (e h : Bool)
        → (if e then get_or final j no_state else (if h then get_or final j no_state else get_or bodies j no_state))
        ≡ (if h || e then get_or final j no_state else get_or bodies j no_state)
    by true true = refl
    by true false = refl
    by false true = refl
    by false false = refl

-- islands whose states were read from a list make this list, where the other bodies are as they are there
pub joined_is : (final : List BodyState) (islands : List Island) (bodies : List BodyState) → length final ≡ length bodies
    → All (λ (i : Island). i.bodies ≡ states_of i.numbers final) islands
    → ((j : ℕ) → j < length bodies → list_any (λ (i : Island). has_number i.numbers j) islands ≡ false
    → get_or bodies j no_state ≡ get_or final j no_state)
    → joined_bodies islands bodies ≡ final
joined_is final islands bodies same are others =
    same_reads (joined_bodies islands bodies) final (joined_long islands bodies ∙ sym same)
    (λ j within.
    let inside : j < length bodies = omega (arith, within, joined_long islands bodies) in
    joined_at final islands bodies j inside are
    ∙ by (list_any (λ (i : Island). has_number i.numbers j) islands) j (others j inside))
  where
    by : (e : Bool) (j : ℕ) → (e ≡ false → get_or bodies j no_state ≡ get_or final j no_state)
        → (if e then get_or final j no_state else get_or bodies j no_state) ≡ get_or final j no_state
    by true j other = refl
    by false j other = other refl

-- ---- contacts

-- a walk by functions that agree
fold_same : {X Y : Type 0} (f g : Y → X → Y) → ((y : Y) (x : X) → f y x ≡ g y x) → (y : Y) (xs : List X)
    → fold f y xs ≡ fold g y xs
fold_same f g same y [] = refl
fold_same f g same y (x ∷ xs) = ap (λ z. fold f z xs) (same y x) ∙ fold_same f g same (g y x) xs

-- what a contact has accumulated after these islands were put back, where their rows are those that
-- touch some bodies
abbrev settled : ℕ → List Row → Impulses → List Island → Impulses
settled n rows p islands = fold (λ q (i : Island). impulses_or q n (rows_among i.numbers rows)) p islands

-- a row of another key does not count
row_apart : (n : ℕ) (r : Row) (rows : List Row) (p : Impulses) (numbers : List ℕ) → (row_rank r == n) ≡ false
    → impulses_or p n (rows_among numbers (r ∷ rows)) ≡ impulses_or p n (rows_among numbers rows)
row_apart n r rows p numbers other = by (touches_one numbers r)
  where
    by : (e : Bool) → impulses_or p n (map (row_among numbers) (cond e (r ∷ filter (touches_one numbers) rows) (filter (touches_one numbers) rows)))
        ≡ impulses_or p n (rows_among numbers rows)
    by true = ap (λ t. if t then r.entry.impulses else impulses_or p n (rows_among numbers rows)) other
    by false = refl

-- no row of a greater key counts
none_above : (n least : ℕ) (rows : List Row) (p : Impulses) (numbers : List ℕ) → n < least → IsRising least (map row_rank rows)
    → impulses_or p n (rows_among numbers rows) ≡ p
none_above n least [] p numbers below rising = refl
none_above n least (r ∷ rows) p numbers below rising =
    row_apart n r rows p numbers (ne_eqb (row_rank r) n (λ is. omega (arith, is, below, rising.0)))
    ∙ none_above n (suc (row_rank r)) rows p numbers (omega (arith, below, rising.0)) rising.1

-- the row of a key counts where it touches the island
row_here : (n : ℕ) (r : Row) (rows : List Row) (p : Impulses) (numbers : List ℕ) → row_rank r ≡ n
    → IsRising (suc (row_rank r)) (map row_rank rows)
    → impulses_or p n (rows_among numbers (r ∷ rows)) ≡ (if touches_one numbers r then r.entry.impulses else p)
row_here n r rows p numbers is rising = by (touches_one numbers r)
  where
    by : (e : Bool) → impulses_or p n (map (row_among numbers) (cond e (r ∷ filter (touches_one numbers) rows) (filter (touches_one numbers) rows)))
        ≡ (if e then r.entry.impulses else p)
    by true =
        ap (λ t. if t then r.entry.impulses else impulses_or p n (rows_among numbers rows)) ((Decides-eqb (row_rank r) n).1 is)
    by false = none_above n (suc (row_rank r)) rows p numbers (omega (arith, is)) rising

-- once it has counted, its impulses stay
stays : (r : Row) (islands : List Island)
    → fold (λ q (i : Island). if touches_one i.numbers r then r.entry.impulses else q) r.entry.impulses islands ≡ r.entry.impulses
stays r [] = refl
stays r (i ∷ islands) = ap (λ p. fold step p islands) (by (touches_one i.numbers r)) ∙ stays r islands
  where
    step : Impulses → Island → Impulses
    step q x = if touches_one x.numbers r then r.entry.impulses else q

    by : (e : Bool) → (if e then r.entry.impulses else r.entry.impulses) ≡ r.entry.impulses
    by true = refl
    by false = refl

-- and it counts where it touches one of the islands
counts : (r : Row) (p : Impulses) (islands : List Island) → list_any (λ (i : Island). touches_one i.numbers r) islands ≡ true
    → fold (λ q (i : Island). if touches_one i.numbers r then r.entry.impulses else q) p islands ≡ r.entry.impulses
counts r p [] some = absurd (true≢false (sym some))
counts r p (i ∷ islands) some = by (touches_one i.numbers r) (counts r p islands) some
  where
    step : Impulses → Island → Impulses
    step q x = if touches_one x.numbers r then r.entry.impulses else q

    by : (e : Bool)
        → (list_any (λ (x : Island). touches_one x.numbers r) islands ≡ true → fold step p islands ≡ r.entry.impulses)
        → (e || list_any (λ (x : Island). touches_one x.numbers r) islands) ≡ true
        → fold step (if e then r.entry.impulses else p) islands ≡ r.entry.impulses
    by true rest h = stays r islands
    by false rest h = rest h

-- so each key has what its row has accumulated
settled_is : (n least : ℕ) (rows : List Row) (p : Impulses) (islands : List Island) → IsRising least (map row_rank rows)
    → All (λ r. list_any (λ (i : Island). touches_one i.numbers r) islands ≡ true) rows
    → settled n rows p islands ≡ impulses_or p n rows
settled_is n least [] p islands rising some = none islands
  where
    none : (is : List Island) → fold (λ q (i : Island). impulses_or q n (rows_among i.numbers [])) p is ≡ p
    none [] = refl
    none (i ∷ is) = none is
settled_is n least (r ∷ rows) p islands rising some =
    by (row_rank r == n) refl
    (settled_is n (suc (row_rank r)) rows p islands rising.1 (All-tail HasIsland r rows some))
  where
    HasIsland : Row → Type 0
    HasIsland x = list_any (λ (i : Island). touches_one i.numbers x) islands ≡ true

    by : (e : Bool) → (row_rank r == n) ≡ e → settled n rows p islands ≡ impulses_or p n rows
        → settled n (r ∷ rows) p islands ≡ (if e then r.entry.impulses else impulses_or p n rows)
    by true same rest =
        let is = (Decides-eqb (row_rank r) n).0 same in
        fold_same _ _ (λ q (i : Island). row_here n r rows q i.numbers is rising.1) p islands
        ∙ counts r p islands (All-head HasIsland r rows some)
    by false other rest = fold_same _ _ (λ q (i : Island). row_apart n r rows q i.numbers other) p islands ∙ rest

-- the contacts after islands were put back, one by one
joined_each : (rows : List Row) (islands : List Island) (contacts : List Contact)
    → All (λ (i : Island). i.rows ≡ rows_among i.numbers rows) islands
    → joined_contacts islands contacts
    ≡ map (λ (c : Contact). record c { impulses = settled (rank c.key) rows c.impulses islands }) contacts
unfolding with_rows
joined_each rows [] contacts are = sym (same_map contacts)
  where
    same_map : (cs : List Contact) → map (λ (c : Contact). record c { impulses = c.impulses }) cs ≡ cs
    same_map [] = refl
    same_map (c ∷ cs) = ap (λ xs. c ∷ xs) (same_map cs)
joined_each rows (i ∷ islands) contacts are =
    joined_each rows islands (with_rows contacts i.rows) (All-tail HasRows i islands are)
    ∙ map-map _ _ contacts
    ∙ ap (λ rs. map (λ (c : Contact). record c { impulses = settled (rank c.key) rows (impulses_or c.impulses (rank c.key) rs) islands }) contacts)
    (All-head HasRows i islands are)
  where
    HasRows : Island → Type 0
    HasRows x = x.rows ≡ rows_among x.numbers rows

-- islands that have all of these rows leave what the rows have accumulated
pub joined_contacts_are : (rows : List Row) (islands : List Island) (contacts : List Contact) → AreRows rows
    → All (λ (i : Island). i.rows ≡ rows_among i.numbers rows) islands
    → All (λ r. list_any (λ (i : Island). touches_one i.numbers r) islands ≡ true) rows
    → joined_contacts islands contacts ≡ with_rows contacts rows
unfolding with_rows
joined_contacts_are rows islands contacts order are some =
    joined_each rows islands contacts are
    ∙ map_same (λ (c : Contact). record c { impulses = settled (rank c.key) rows c.impulses islands }) _
    (λ c. ap (λ p. record c { impulses = p }) (settled_is (rank c.key) 0 rows c.impulses islands (rows_rise rows order) some)) contacts
  where
    map_same : {X Y : Type 0} (f g : X → Y) → ((x : X) → f x ≡ g x) → (xs : List X) → map f xs ≡ map g xs
    map_same f g same [] = refl
    map_same f g same (x ∷ xs) = ap₂ (λ y ys. y ∷ ys) (same x) (map_same f g same xs)
