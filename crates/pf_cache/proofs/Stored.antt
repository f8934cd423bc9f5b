-- Contacts with the impulses of rows.
use Rattle.std.proofs.Common.{◌≡◌, ◌≢◌, ◌∙◌, ℕ, zero, suc, ◌+◌, ◌≤◌, ◌<◌, ◌==◌, Bool, true, false, List, [], ◌∷◌, take, take_all, set, length, map, refl, sym, ap, ap₂, arith}
use Rattle.std.proofs.lemmas.Bool.Decides.{Decides-eqb}
use Rattle.std.proofs.lemmas.List.{get_or-map, map-id}
use Rattle.std.proofs.lemmas.List.Elements.{All-nil, All-cons, All-head, All-tail}
use Rattle.std.specs.Prelude.{All, get_or, if◌then◌else◌}
use Rattle.pf_manifold.specs.Key.{IsKey, IsRising, Key, key_of, rank}
use Rattle.pf_manifold.proofs.Rising.{rising-all}
use Rattle.pf_rows.specs.Impulses.{Impulses}
use Rattle.pf_cache.specs.Contact.{AreContacts, Contact, no_contact}
use Rattle.pf_rows.specs.Row.{Row, impulses_or}
use Rattle.pf_cache.specs.ContactRows.{AreRowsAt, with_rows}
use Rattle.pf_cache.proofs.FoundRows.{impulses_of, row_rank, rows_rise}
use Rattle.pf_cache.proofs.RankedLists as ranked

abbrev rank_of : Contact → ℕ
rank_of c = rank c.key

-- a contact with the impulses of its row
abbrev stored : List Row → Contact → Contact
stored rows c = record c { impulses = impulses_or c.impulses (rank c.key) rows }

-- contacts with other impulses: their ranks ascend as before
rising_with : (p : Contact → Impulses) (least : ℕ) (contacts : List Contact) → IsRising least (map rank_of contacts)
    → IsRising least (map rank_of (map (λ (c : Contact). record c { impulses = p c }) contacts))
rising_with p least [] h = tt
rising_with p least (c ∷ contacts) h = (h.0, rising_with p (suc (rank c.key)) contacts h.1)

-- they have their keys
keys_with : (p : Contact → Impulses) (contacts : List Contact) → All (λ c. IsKey c.key) contacts
    → All (λ c. IsKey c.key) (map (λ (c : Contact). record c { impulses = p c }) contacts)
keys_with p [] h = All-nil (λ c. IsKey c.key)
keys_with p (c ∷ contacts) h =
    All-cons (λ x. IsKey x.key) (record c { impulses = p c }) (map (λ (x : Contact). record x { impulses = p x }) contacts)
    (All-head (λ x. IsKey x.key) c contacts h) (keys_with p contacts (All-tail (λ x. IsKey x.key) c contacts h))

-- so they are still in the order of their keys
pub with_impulses_are_contacts : (p : Contact → Impulses) (contacts : List Contact) → AreContacts contacts
    → AreContacts (map (λ (c : Contact). record c { impulses = p c }) contacts)
with_impulses_are_contacts p contacts order = record {
  rising = rising_with p 0 contacts order.rising;
  keys = keys_with p contacts order.keys;
}

-- stored contacts are in the order of their keys
pub stored_are_contacts : (contacts : List Contact) (rows : List Row) → AreContacts contacts
    → AreContacts (with_rows contacts rows)
unfolding with_rows
stored_are_contacts contacts rows order =
    with_impulses_are_contacts (λ (c : Contact). impulses_or c.impulses (rank c.key) rows) contacts order

-- with no rows, contacts stay as they are
pub none_stored : (contacts : List Contact) → with_rows contacts [] ≡ contacts
unfolding with_rows
none_stored contacts = map-id contacts

-- rows up to one: its rank has its impulses
last_found : (p : Impulses) (least : ℕ) (rows : List Row) (k : ℕ) (d : Row) → k < length rows
    → IsRising least (map row_rank rows)
    → impulses_or p (row_rank (get_or rows k d)) (take (suc k) rows) ≡ (get_or rows k d).entry.impulses
last_found p least [] k d within h = absurd (omega (arith, within))
last_found p least (r ∷ rows) zero d within h =
    ranked.first_alone row_rank impulses_of p (row_rank r) r [] refl
last_found p least (r ∷ rows) (suc k) d within h =
    let inside : k < length rows = omega (arith, within) in
    let above = rising-all row_rank (suc (row_rank r)) rows h.1 k d inside in
    ranked.other_rank row_rank impulses_of p (row_rank (get_or rows k d)) r (take (suc k) rows) (omega (arith, above))
    ∙ last_found p (suc (row_rank r)) rows k d inside h.1

-- and another rank has what it had without that row
other_found : (p : Impulses) (n : ℕ) (rows : List Row) (k : ℕ) (d : Row) → k < length rows
    → n ≢ row_rank (get_or rows k d) → impulses_or p n (take (suc k) rows) ≡ impulses_or p n (take k rows)
other_found p n [] k d within other = absurd (omega (arith, within))
other_found p n (r ∷ rows) zero d within other = by (row_rank r == n) refl
  where
    by : (t : Bool) → (row_rank r == n) ≡ t → (if t then r.entry.impulses else p) ≡ p
    by true e = absurd (other (sym ((Decides-eqb (row_rank r) n).0 e)))
    by false e = refl
other_found p n (r ∷ rows) (suc k) d within other =
    ap (λ q. if row_rank r == n then r.entry.impulses else q) (other_found p n rows k d (omega (arith, within)) other)

-- rows with the keys of the contacts at their places
module _ (contacts : List Contact) (rows : List Row) (beside : AreRowsAt contacts rows) where
  -- one row more, at k
  module _ (k : ℕ) (d : Row) (inside : k < length rows) where
    abbrev row : Row
    row = get_or rows k d

    abbrev here : Contact
    here = get_or contacts row.entry.place no_contact

    -- its place is that of a contact
    within : row.entry.place < length contacts
    within = (beside.places k d inside).within

    -- which has its key
    same_key : key_of row.entry.touch ≡ here.key
    same_key = sym (beside.places k d inside).key

    -- up to it, the contact has its impulses
    found : impulses_or here.impulses (rank here.key) (take (suc k) rows) ≡ row.entry.impulses
    found =
        ap (λ n. impulses_or here.impulses n (take (suc k) rows)) (sym (ap rank same_key))
        ∙ last_found here.impulses 0 rows k d inside (rows_rise rows beside.order)

    -- the contact at its place takes its impulses, and the others keep theirs
    pub stored_more : (now : List Contact) (place : ℕ) (c e : Contact) (p : Impulses) → AreContacts contacts
        → now ≡ with_rows contacts (take k rows) → place ≡ row.entry.place → c ≡ get_or now place e
        → p ≡ row.entry.impulses
        → set now place (record c { impulses = p }) ≡ with_rows contacts (take (k + 1) rows)
    unfolding with_rows
    stored_more now place c e p order now_is place_is c_is p_is =
        let before = stored (take k rows) in
        let after = stored (take (suc k) rows) in
        let key_is : c.key ≡ here.key =
        ap (λ (x : Contact). x.key)
        (c_is ∙ ap₂ (λ xs n. get_or xs n e) now_is place_is ∙ get_or-map before contacts row.entry.place no_contact e within) in
        let next : k + 1 ≡ suc k = omega arith in
        ap₂ (λ (q : Key) (i : Impulses). set now place (record { key = q; impulses = i })) key_is (p_is ∙ sym found)
        ∙ ap₂ (λ xs n. set xs n (after here)) now_is place_is
        ∙ ranked.set_one rank_of before after 0 contacts row.entry.place no_contact within order.rising
        (λ x apart.
        let other : rank x.key ≢ row_rank row = λ e. apart (e ∙ ap rank same_key) in
        ap (λ i. record x { impulses = i }) (sym (other_found x.impulses (rank x.key) rows k d inside other)))
        ∙ ap (λ n. map (stored (take n rows)) contacts) (sym next)

-- all rows are stored
pub all_stored : (contacts : List Contact) (rows : List Row) (k : ℕ) → length rows ≤ k
    → with_rows contacts (take k rows) ≡ with_rows contacts rows
all_stored contacts rows k over = ap (with_rows contacts) (take_all k rows over)
