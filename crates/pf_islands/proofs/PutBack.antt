-- What each body and each contact has after islands were put back into their world.
use Rattle.std.proofs.Common.{◌≡◌, ◌≢◌, ◌∙◌, ℕ, zero, suc, ◌<◌, ◌≤◌, List, [], ◌∷◌, Some, length, refl, sym, ap, subst, arith, get_or, slice_get, slice_set}
use Rattle.std.proofs.lemmas.List.Elements.{All-head, All-tail}
use Rattle.std.proofs.lemmas.Option.{slice_get-get_or, slice_get-map}
use Rattle.std.specs.List.{zip}
use Rattle.std.specs.Prelude.{All, fold, option_map}
use Rattle.pf_shapes.specs.Body.{BodyState}
use Rattle.pf_manifold.specs.Key.{IsKey, IsRising, Key, key_of, rank}
use Rattle.pf_rows.specs.Impulses.{Impulses}
use Rattle.pf_cache.specs.Contact.{AreContacts, Contact, no_contact}
use Rattle.pf_rows.specs.Row.{AreRows, Row, impulses_or}
use Rattle.pf_cache.specs.ContactRows.{AreRowsAt, IsRowAt, with_rows}
use Rattle.pf_cache.proofs.FoundRows.{all_found, none_found, row_rank, rows_rise}
use Rattle.pf_islands.specs.Join.{IsAtHome, joined_bodies, joined_contacts, with_states}
use Rattle.pf_islands.specs.Laws.{HasBody, HoldsRow}
use Rattle.pf_islands.specs.Split.{Island}
use Rattle.pf_islands.proofs.Elements.{all_at, all_from, same_element, set_length, set_other, set_same}
use Rattle.pf_cache.proofs.Splicing.{all_unmap}

-- ---- bodies

-- a number of a rising list is not below the first bound
pub rising_at : (least : ℕ) (numbers : List ℕ) (p n : ℕ) → IsRising least numbers → slice_get numbers p ≡ Some n → least ≤ n
rising_at least [] p n rising here = absurd cc
rising_at least (m ∷ numbers) zero n rising here = omega (arith, rising.0, same_element m n here)
rising_at least (m ∷ numbers) (suc p) n rising here =
    omega (arith, rising.0, rising_at (suc m) numbers p n rising.1 here)

states_long : (numbers : List ℕ) (states bodies : List BodyState)
    → length (fold (λ bs m. slice_set bs m.0 m.1) bodies (zip numbers states)) ≡ length bodies
states_long [] states bodies = refl
states_long (n ∷ numbers) [] bodies = refl
states_long (n ∷ numbers) (b ∷ states) bodies = states_long numbers states (slice_set bodies n b) ∙ set_length bodies n b

-- a body without a state among these stays as it is
stays : (numbers : List ℕ) (states bodies : List BodyState) (n : ℕ)
    → ((p : ℕ) (b : BodyState) → slice_get numbers p ≡ Some n → slice_get states p ≡ Some b → ⊥)
    → slice_get (fold (λ bs m. slice_set bs m.0 m.1) bodies (zip numbers states)) n ≡ slice_get bodies n
stays [] states bodies n none = refl
stays (m ∷ numbers) [] bodies n none = refl
stays (m ∷ numbers) (s ∷ states) bodies n none =
    stays numbers states (slice_set bodies m s) n (λ p b number state. none (suc p) b number state)
    ∙ set_other bodies m n s (λ same. none 0 s (ap Some same) refl)

-- a body with a state among these has it
written : (least : ℕ) (numbers : List ℕ) (states bodies : List BodyState) (p n : ℕ) (b : BodyState)
    → IsRising least numbers → slice_get numbers p ≡ Some n → slice_get states p ≡ Some b → n < length bodies
    → slice_get (fold (λ bs m. slice_set bs m.0 m.1) bodies (zip numbers states)) n ≡ Some b
written least [] states bodies p n b rising number state within = absurd cc
written least (m ∷ numbers) [] bodies p n b rising number state within = absurd cc
written least (m ∷ numbers) (s ∷ states) bodies zero n b rising number state within =
    let is : m ≡ n = same_element m n number in
    stays numbers states (slice_set bodies m s) n
    (λ p c again there. omega (arith, is, rising_at (suc m) numbers p n rising.1 again))
    ∙ ap (λ i. slice_get (slice_set bodies i s) n) is
    ∙ set_same bodies n s (get_or bodies n b) (slice_get-get_or bodies n b within)
    ∙ state
written least (m ∷ numbers) (s ∷ states) bodies (suc p) n b rising number state within =
    written (suc m) numbers states (slice_set bodies m s) p n b rising.1 number state
    (omega (arith, within, set_length bodies m s))

-- a body of the islands behind the first is one of all
behind : (i : Island) (islands : List Island) (k n : ℕ) (b : BodyState) → HasBody islands k n b
    → HasBody (i ∷ islands) (suc k) n b
behind i islands k n b has = record {
  island = has.island;
  place = has.place;
  is_there = has.is_there;
  number = has.number;
  state = has.state;
}

-- a body that no island has stays as it is
pub others_stay : (islands : List Island) (bodies : List BodyState) (n : ℕ)
    → ((k : ℕ) (b : BodyState) → HasBody islands k n b → ⊥)
    → slice_get (joined_bodies islands bodies) n ≡ slice_get bodies n
others_stay [] bodies n none = refl
others_stay (i ∷ islands) bodies n none =
    others_stay islands (with_states i bodies) n (λ k b has. none (suc k) b (behind i islands k n b has))
    ∙ stays i.numbers i.bodies bodies n (λ p b number state. none 0 b (record {
      island = i;
      place = p;
      is_there = refl;
      number = number;
      state = state;
    }))

-- a body that one island has, and no other, has the state that it has there
pub states_go_home : (islands : List Island) (bodies : List BodyState) → All (IsAtHome (length bodies)) islands
    → All (λ i. IsRising 0 i.numbers) islands
    → ((k l n : ℕ) (b c : BodyState) → HasBody islands k n b → HasBody islands l n c → k ≡ l)
    → (k n : ℕ) (b : BodyState) → HasBody islands k n b → slice_get (joined_bodies islands bodies) n ≡ Some b
states_go_home [] bodies home rise once k n b has = none k has.is_there
  where
    none : {X : Type 0} (j : ℕ) {x : Island} → slice_get [] j ≡ Some x → X
    none j here = absurd cc
states_go_home (i ∷ islands) bodies home rise once zero n b has =
    let is : i ≡ has.island = same_element i has.island has.is_there in
    others_stay islands (with_states i bodies) n
    (λ k c there. zero_is_no_successor (once zero (suc k) n b c has (behind i islands k n c there)))
    ∙ written 0 i.numbers i.bodies bodies has.place n b (All-head (λ (x : Island). IsRising 0 x.numbers) i islands rise)
    (ap (λ (x : Island). slice_get x.numbers has.place) is ∙ has.number)
    (ap (λ (x : Island). slice_get x.bodies has.place) is ∙ has.state)
    (all_at (λ m. m < length bodies) i.numbers has.place n (All-head (IsAtHome (length bodies)) i islands home).within
    (ap (λ (x : Island). slice_get x.numbers has.place) is ∙ has.number))
  where
    zero_is_no_successor : {k : ℕ} → zero ≡ suc k → ⊥
    zero_is_no_successor e = omega (arith, e)
states_go_home (i ∷ islands) bodies home rise once (suc k) n b has =
    states_go_home islands (with_states i bodies)
    (subst (λ m. All (IsAtHome m) islands) (sym (states_long i.numbers i.bodies bodies))
    (All-tail (IsAtHome (length bodies)) i islands home))
    (All-tail (λ (x : Island). IsRising 0 x.numbers) i islands rise)
    (λ l m j c d first second. omega (arith, once (suc l) (suc m) j c d (behind i islands l j c first) (behind i islands m j d second)))
    k n b (record {
      island = has.island;
      place = has.place;
      is_there = has.is_there;
      number = has.number;
      state = has.state;
    })

-- ---- contacts

-- what a contact of this rank has accumulated after islands were put back
abbrev accumulated : ℕ → List Island → Impulses → Impulses
accumulated n islands p = fold (λ q (i : Island). impulses_or q n i.rows) p islands

-- each contact after islands were put back
read : (islands : List Island) (contacts : List Contact) (p : ℕ) (c : Contact) → slice_get contacts p ≡ Some c
    → slice_get (joined_contacts islands contacts) p ≡ Some (record c { impulses = accumulated (rank c.key) islands c.impulses })
unfolding with_rows
read [] contacts p c here = here
read (i ∷ islands) contacts p c here =
    read islands (with_rows contacts i.rows) p (record c { impulses = impulses_or c.impulses (rank c.key) i.rows })
    (slice_get-map (λ (x : Contact). record x { impulses = impulses_or x.impulses (rank x.key) i.rows }) contacts p
    ∙ ap (option_map (λ (x : Contact). record x { impulses = impulses_or x.impulses (rank x.key) i.rows })) here)

-- keys of one rank are one key
same_key : (k l : Key) → IsKey k → IsKey l → rank k ≡ rank l → k ≡ l
same_key k l first second same =
    let a : k.a ≡ l.a = omega (arith, same, first.order, first.bodies, first.feature, second.order, second.bodies, second.feature) in
    let b : k.b ≡ l.b = omega (arith, a, same, first.feature, second.feature) in
    let feature : k.feature ≡ l.feature = omega (arith, a, b, same) in
    λ i. record { a = a i; b = b i; feature = feature i }

key_in_range : (rows : List Row) (p : ℕ) (r : Row) → AreRows rows → slice_get rows p ≡ Some r → IsKey (key_of r.entry.touch)
key_in_range rows p r order here =
    all_at (λ (x : Row). IsKey (key_of x.entry.touch)) rows p r (all_unmap (λ t. IsKey (key_of t)) (λ (x : Row). x.entry.touch) rows order.keys) here

behind_row : (i : Island) (islands : List Island) (k : ℕ) (r : Row) → HoldsRow islands k r → HoldsRow (i ∷ islands) (suc k) r
behind_row i islands k r has = record {
  island = has.island;
  place = has.place;
  is_there = has.is_there;
  row = has.row;
}

-- no island with a row of a key: nothing is written
nothing : (islands : List Island) (k : Key) (p : Impulses)
    → ((l : ℕ) (r : Row) → HoldsRow islands l r → row_rank r ≡ rank k → ⊥)
    → accumulated (rank k) islands p ≡ p
nothing [] k p none = refl
nothing (i ∷ islands) k p none =
    ap (λ q. accumulated (rank k) islands q)
    (none_found p k i.rows (all_from (λ r. row_rank r ≢ rank k) i.rows
    (λ place r here same. none 0 r (record {
      island = i;
      place = place;
      is_there = refl;
      row = here;
    }) same)))
    ∙ nothing islands k p (λ l r has same. none (suc l) r (behind_row i islands l r has) same)

-- one island alone with a row of a key: what the row has accumulated is written
once_written : (islands : List Island) (p : Impulses) → All (λ i. AreRows i.rows) islands
    → ((k l : ℕ) (q r : Row) → HoldsRow islands k q → HoldsRow islands l r → row_rank q ≡ row_rank r → k ≡ l)
    → (k : ℕ) (r : Row) → HoldsRow islands k r → accumulated (row_rank r) islands p ≡ r.entry.impulses
once_written [] p order once k r has = none k has.is_there
  where
    none : {X : Type 0} (j : ℕ) {x : Island} → slice_get [] j ≡ Some x → X
    none j here = absurd cc
once_written (i ∷ islands) p order once zero r has =
    let is : i ≡ has.island = same_element i has.island has.is_there in
    ap (λ q. accumulated (row_rank r) islands q)
    (all_at (λ (x : Row). impulses_or p (row_rank x) i.rows ≡ x.entry.impulses) i.rows has.place r
    (all_found p 0 i.rows (rows_rise i.rows (All-head (λ (x : Island). AreRows x.rows) i islands order)))
    (ap (λ (x : Island). slice_get x.rows has.place) is ∙ has.row))
    ∙ nothing islands (key_of r.entry.touch) r.entry.impulses
    (λ l q there same. zero_is_no_successor (once zero (suc l) r q has (behind_row i islands l q there) (sym same)))
  where
    zero_is_no_successor : {k : ℕ} → zero ≡ suc k → ⊥
    zero_is_no_successor e = omega (arith, e)
once_written (i ∷ islands) p order once (suc k) r has =
    once_written islands (impulses_or p (row_rank r) i.rows) (All-tail (λ (x : Island). AreRows x.rows) i islands order)
    (λ l m q s first second same. omega (arith, once (suc l) (suc m) q s (behind_row i islands l q first) (behind_row i islands m s second) same))
    k r (record {
      island = has.island;
      place = has.place;
      is_there = has.is_there;
      row = has.row;
    })

-- what is known of a row of an island whose rows stand at these contacts
record IsHeld (contacts : List Contact) (r : Row) : Type 0 where
  at_place : IsRowAt contacts r
  in_range : IsKey (key_of r.entry.touch)

is_held : (contacts : List Contact) (islands : List Island) (k : ℕ) (r : Row) → All (λ i. AreRowsAt contacts i.rows) islands
    → HoldsRow islands k r → IsHeld contacts r
is_held contacts islands k r at has =
    let here : AreRowsAt contacts has.island.rows = all_at (λ (i : Island). AreRowsAt contacts i.rows) islands k has.island at has.is_there in
    record {
      at_place = all_at (IsRowAt contacts) has.island.rows has.place r here.places has.row;
      in_range = key_in_range has.island.rows has.place r here.order has.row;
    }

-- what a contact has accumulated in the one island that has it
pub impulses_go_home : (islands : List Island) (contacts : List Contact) → All (λ i. AreRowsAt contacts i.rows) islands
    → ((k l : ℕ) (q r : Row) → HoldsRow islands k q → HoldsRow islands l r → key_of q.entry.touch ≡ key_of r.entry.touch → k ≡ l)
    → (k : ℕ) (r : Row) → HoldsRow islands k r
    → slice_get (joined_contacts islands contacts) r.entry.place
    ≡ Some (record { key = key_of r.entry.touch; impulses = r.entry.impulses })
impulses_go_home islands contacts at once k r has =
    read islands contacts r.entry.place contact (slice_get-get_or contacts r.entry.place no_contact held.at_place.within)
    ∙ ap Some (λ i. record { key = held.at_place.key i; impulses = impulses i })
  where
    held : IsHeld contacts r
    held = is_held contacts islands k r at has

    contact : Contact
    contact = get_or contacts r.entry.place no_contact

    impulses : accumulated (rank contact.key) islands contact.impulses ≡ r.entry.impulses
    impulses =
        ap (λ (key : Key). accumulated (rank key) islands contact.impulses) held.at_place.key
        ∙ once_written islands contact.impulses (all_from (λ (i : Island). AreRows i.rows) islands
        (λ l i here. (all_at (λ (x : Island). AreRowsAt contacts x.rows) islands l i at here).order))
        (λ l m q s first second same. once l m q s first second
        (same_key (key_of q.entry.touch) (key_of s.entry.touch) (is_held contacts islands l q at first).in_range
        (is_held contacts islands m s at second).in_range same))
        k r has

-- a contact that no island has stays as it is
pub other_impulses_stay : (islands : List Island) (contacts : List Contact) → AreContacts contacts
    → All (λ i. AreRowsAt contacts i.rows) islands
    → (p : ℕ) (c : Contact) → slice_get contacts p ≡ Some c
    → ((k : ℕ) (r : Row) → HoldsRow islands k r → key_of r.entry.touch ≡ c.key → ⊥)
    → slice_get (joined_contacts islands contacts) p ≡ Some c
other_impulses_stay islands contacts are at p c here none =
    read islands contacts p c here ∙ ap Some (λ i. record c { impulses = impulses i })
  where
    impulses : accumulated (rank c.key) islands c.impulses ≡ c.impulses
    impulses = nothing islands c.key c.impulses
        (λ l r has same. none l r has (same_key (key_of r.entry.touch) c.key (is_held contacts islands l r at has).in_range
        (all_at (λ (x : Contact). IsKey x.key) contacts p c are.keys here) same))
