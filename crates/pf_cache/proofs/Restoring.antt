-- Contacts with noted impulses, and the contacts before a change.
use Rattle.std.proofs.Common.{◌≡◌, ◌≢◌, ◌∙◌, ℕ, ◌<◌, ◌==◌, Bool, true, false, ◌||◌, List, [], ◌∷◌, ◌++◌, drop, length, map, set, refl, sym, ap, ap₂, true≢false}
use Rattle.std.proofs.lemmas.Bool.Decides.{Decides-eqb}
use Rattle.std.proofs.lemmas.List.{get_or_default, map-id, set-get_or}
use Rattle.std.proofs.lemmas.List.Elements.{All-nil, All-cons, All-drop, All-head, All-tail, All-weaker}
use Rattle.std.proofs.lemmas.List.Folds.{list_any-append}
use Rattle.std.proofs.lemmas.Simd.{map-map}
use Rattle.std.specs.Prelude.{All, get_or, not, if◌then◌else◌}
use Rattle.pf_manifold.specs.Key.{IsKey, Key, rank}
use Rattle.pf_manifold.proofs.Rising.{rising-drop}
use Rattle.pf_rows.specs.Impulses.{Impulses}
use Rattle.pf_rows.specs.Row.{Row, impulses_or}
use Rattle.pf_cache.specs.Contact.{AreContacts, Contact, no_contact}
use Rattle.pf_cache.specs.ContactRows.{IsRowAt, with_rows}
use Rattle.pf_cache.specs.ContactsChange.{ContactsChange, contact_of_row, contacts_before, has_rank, may_change, noted_or, with_noted}
use Rattle.pf_cache.proofs.FoundRows.{row_rank}
use Rattle.pf_cache.proofs.RankedLists as ranked
use Rattle.pf_cache.proofs.Stored.{with_impulses_are_contacts}

abbrev rank_of : Contact → ℕ
rank_of c = rank c.key

-- a contact with the impulses that are noted of it
abbrev pub before : List Contact → Contact → Contact
before noted c = record c { impulses = noted_or c.impulses (rank c.key) noted }

-- they are still in the order of their keys
pub noted_are_contacts : (contacts noted : List Contact) → AreContacts contacts → AreContacts (with_noted contacts noted)
unfolding with_noted
noted_are_contacts contacts noted order =
    with_impulses_are_contacts (λ (c : Contact). noted_or c.impulses (rank c.key) noted) contacts order

-- where nothing is noted, contacts stay as they are
pub none_noted : (contacts : List Contact) → with_noted contacts [] ≡ contacts
unfolding with_noted
none_noted contacts = map-id contacts

-- what is noted twice counts as it is noted first
pub noted_append : (p : Impulses) (n : ℕ) (noted more : List Contact)
    → noted_or p n (noted ++ more) ≡ noted_or (noted_or p n more) n noted
noted_append p n [] more = refl
noted_append p n (c ∷ noted) more = ap (λ q. if rank c.key == n then c.impulses else q) (noted_append p n noted more)

pub noted_both : (contacts noted more : List Contact)
    → with_noted (with_noted contacts more) noted ≡ with_noted contacts (noted ++ more)
unfolding with_noted
noted_both contacts noted more =
    map-map (before noted) (before more) contacts
    ∙ ap (λ (f : Contact → Contact). map f contacts)
    (λ i c. record c { impulses = sym (noted_append c.impulses (rank c.key) noted more) i })

-- the contact at a place gets what is noted of it
pub restored_at : (contacts : List Contact) (place : ℕ) (n c : Contact) → AreContacts contacts → place < length contacts
    → c ≡ get_or contacts place no_contact → rank c.key ≡ rank n.key
    → set contacts place (record c { impulses = n.impulses }) ≡ with_noted contacts (n ∷ [])
unfolding with_noted
restored_at contacts place n c order within c_is same =
    let here = get_or contacts place no_contact in
    let own : rank here.key ≡ rank n.key = ap rank_of (sym c_is) ∙ same in
    ap₂ (λ xs x. set xs place x) (sym (map-id contacts))
    (ap (λ (x : Contact). record x { impulses = n.impulses }) c_is
    ∙ ap (λ p. record here { impulses = p })
    (sym (ranked.first_alone rank_of (λ (x : Contact). x.impulses) here.impulses (rank here.key) n [] (sym own))))
    ∙ ranked.set_one rank_of (λ x. x) (before (n ∷ [])) 0 contacts place no_contact within order.rising
    (λ x apart.
    ap (λ p. record x { impulses = p })
    (sym (other x.impulses (rank x.key) n (λ e. apart (sym e ∙ sym own)))))
  where
    other : (p : Impulses) (m : ℕ) (x : Contact) → rank x.key ≢ m → noted_or p m (x ∷ []) ≡ p
    other p m x apart = by (rank x.key == m) refl
      where
        by : (t : Bool) → (rank x.key == m) ≡ t → (if t then x.impulses else p) ≡ p
        by true e = absurd (apart ((Decides-eqb (rank x.key) m).0 e))
        by false e = refl

pub restored_here : (contacts : List Contact) (place : ℕ) (n here : Contact) (key : Key) (p : Impulses) → AreContacts contacts
    → place < length contacts → here ≡ get_or contacts place here → key ≡ (get_or contacts place here).key → p ≡ n.impulses
    → rank (get_or contacts place no_contact).key ≡ rank n.key
    → set contacts place (record { key = key; impulses = p }) ≡ with_noted contacts (n ∷ [])
restored_here contacts place n here key p order within here_is key_is p_is same =
    let found : get_or contacts place here ≡ get_or contacts place no_contact = get_or_default contacts place here no_contact within in
    ap₂ (λ k q. set contacts place (record { key = k; impulses = q })) (key_is ∙ ap (λ (x : Contact). x.key) found) p_is
    ∙ restored_at contacts place n (get_or contacts place no_contact) order within refl same

-- where there is no such contact, all stay as they are
pub restored_nowhere : (contacts : List Contact) (n : Contact) → All (λ c. rank c.key ≢ rank n.key) contacts
    → contacts ≡ with_noted contacts (n ∷ [])
unfolding with_noted
restored_nowhere [] n none = refl
restored_nowhere (c ∷ contacts) n none =
    ap₂ (λ x xs. x ∷ xs)
    (ap (λ p. record c { impulses = p })
    (by (rank n.key == rank c.key) refl))
    (restored_nowhere contacts n (All-tail (λ x. rank x.key ≢ rank n.key) c contacts none))
  where
    by : (t : Bool) → (rank n.key == rank c.key) ≡ t → c.impulses ≡ (if t then n.impulses else c.impulses)
    by true e =
        absurd (All-head (λ x. rank x.key ≢ rank n.key) c contacts none (sym ((Decides-eqb (rank n.key) (rank c.key)).0 e)))
    by false e = refl

-- the last one is restored first
pub restored_last : (noted rest : List Contact) (n : Contact) (contacts now : List Contact) → noted ≡ rest ++ n ∷ []
    → now ≡ with_noted contacts (n ∷ []) → with_noted now rest ≡ with_noted contacts noted
restored_last noted rest n contacts now is restored =
    ap (λ cs. with_noted cs rest) restored ∙ noted_both contacts rest (n ∷ []) ∙ ap (with_noted contacts) (sym is)

-- ---- contacts of some places that are noted as they are

module _ (contacts : List Contact) (order : AreContacts contacts) where
  -- they have keys
  pub rows_have_keys : (rows : List Row) → All (IsRowAt contacts) rows
      → All (λ c. IsKey c.key) (map (contact_of_row contacts) rows)
  rows_have_keys [] at = All-nil (λ c. IsKey c.key)
  rows_have_keys (r ∷ rows) at =
      All-cons (λ c. IsKey c.key) (contact_of_row contacts r) (map (contact_of_row contacts) rows)
      (order.keys r.entry.place no_contact (All-head (IsRowAt contacts) r rows at).within)
      (rows_have_keys rows (All-tail (IsRowAt contacts) r rows at))

  -- contacts that are noted as they are stay as they are
  rows_stay : (rows : List Row) → All (IsRowAt contacts) rows
      → with_noted contacts (map (contact_of_row contacts) rows) ≡ contacts
  rows_stay [] at = none_noted contacts
  rows_stay (r ∷ rows) at =
      let n = contact_of_row contacts r in
      let within = (All-head (IsRowAt contacts) r rows at).within in
      sym (noted_both contacts (n ∷ []) (map (contact_of_row contacts) rows))
      ∙ ap (λ cs. with_noted cs (n ∷ [])) (rows_stay rows (All-tail (IsRowAt contacts) r rows at))
      ∙ sym (restored_at contacts r.entry.place n n order within refl refl)
      ∙ set-get_or contacts r.entry.place no_contact

  -- to note them changes nothing of the contacts before
  pub same_before : (noted : List Contact) (rows : List Row) → All (IsRowAt contacts) rows
      → with_noted contacts (noted ++ map (contact_of_row contacts) rows) ≡ with_noted contacts noted
  same_before noted rows at =
      sym (noted_both contacts noted (map (contact_of_row contacts) rows)) ∙ ap (λ cs. with_noted cs noted) (rows_stay rows at)

-- ---- impulses that change at noted contacts

pub or_right : (a b : Bool) → b ≡ true → (a || b) ≡ true
or_right true b is = refl
or_right false b is = is

-- what is noted counts, whatever a contact has
whatever : (p q : Impulses) (n : ℕ) (noted : List Contact) → has_rank noted n ≡ true
    → noted_or p n noted ≡ noted_or q n noted
whatever p q n [] is = absurd (true≢false (sym is))
whatever p q n (c ∷ noted) is = by (rank c.key == n) is (whatever p q n noted)
  where
    by : (t : Bool) → (t || has_rank noted n) ≡ true
        → (has_rank noted n ≡ true → noted_or p n noted ≡ noted_or q n noted)
        → (if t then c.impulses else noted_or p n noted) ≡ (if t then c.impulses else noted_or q n noted)
    by true is rest = refl
    by false is rest = rest is

-- no row has a rank of which nothing is noted
no_row : (p : Impulses) (n : ℕ) (rows : List Row) (noted : List Contact)
    → All (λ r. has_rank noted (row_rank r) ≡ true) rows → has_rank noted n ≡ false → impulses_or p n rows ≡ p
no_row p n [] noted all none = refl
no_row p n (r ∷ rows) noted all none =
    by (row_rank r == n) refl (no_row p n rows noted (All-tail (λ x. has_rank noted (row_rank x) ≡ true) r rows all) none)
  where
    by : (t : Bool) → (row_rank r == n) ≡ t → impulses_or p n rows ≡ p
        → (if t then r.entry.impulses else impulses_or p n rows) ≡ p
    by false e rest = rest
    by true e rest =
        let same : row_rank r ≡ n = (Decides-eqb (row_rank r) n).0 e in
        absurd (true≢false
        (sym (All-head (λ x. has_rank noted (row_rank x) ≡ true) r rows all) ∙ ap (has_rank noted) same ∙ none))

-- so what rows store is undone where their contacts are noted
stored_undone : (rows : List Row) (noted contacts : List Contact) → All (λ r. has_rank noted (row_rank r) ≡ true) rows
    → with_noted (with_rows contacts rows) noted ≡ with_noted contacts noted
unfolding with_noted with_rows
stored_undone rows noted [] all = refl
stored_undone rows noted (c ∷ contacts) all =
    ap₂ (λ x xs. x ∷ xs) (ap (λ p. record c { impulses = p }) (by (has_rank noted (rank c.key)) refl))
    (stored_undone rows noted contacts all)
  where
    by : (t : Bool) → has_rank noted (rank c.key) ≡ t
        → noted_or (impulses_or c.impulses (rank c.key) rows) (rank c.key) noted ≡ noted_or c.impulses (rank c.key) noted
    by true is = whatever (impulses_or c.impulses (rank c.key) rows) c.impulses (rank c.key) noted is
    by false none = ap (λ p. noted_or p (rank c.key) noted) (no_row c.impulses (rank c.key) rows noted all none)

pub before_rows : (change : ContactsChange) (contacts : List Contact) (rows : List Row)
    → All (λ r. may_change change (row_rank r) ≡ true) rows
    → contacts_before change (with_rows contacts rows) ≡ contacts_before change contacts
before_rows change contacts rows all = by change.in_place all
  where
    by : (t : Bool) → All (λ r. (not t || has_rank change.noted (row_rank r)) ≡ true) rows
        → (if t then with_noted (with_rows contacts rows) change.noted else change.before)
        ≡ (if t then with_noted contacts change.noted else change.before)
    by true may = stored_undone rows change.noted contacts may
    by false may = refl

-- the first note of a contact counts
pub first_noted : (own : Impulses) (c : Contact) (noted : List Contact) → noted_or own (rank c.key) (c ∷ noted) ≡ c.impulses
first_noted own c noted =
    ranked.first_alone rank_of (λ (x : Contact). x.impulses) own (rank c.key) c noted refl

-- and another contact keeps its own impulses
pub never_noted : (own : Impulses) (n : ℕ) (noted : List Contact) → has_rank noted n ≡ false → noted_or own n noted ≡ own
never_noted own n [] none = refl
never_noted own n (c ∷ noted) none = by (rank c.key == n) none (never_noted own n noted)
  where
    by : (t : Bool) → (t || has_rank noted n) ≡ false → (has_rank noted n ≡ false → noted_or own n noted ≡ own)
        → (if t then c.impulses else noted_or own n noted) ≡ own
    by true none rest = absurd (true≢false none)
    by false none rest = rest none

-- ---- rows whose contacts are noted

ranks_front : (noted more : List Contact) (n : ℕ) → has_rank noted n ≡ true → has_rank (noted ++ more) n ≡ true
ranks_front noted more n is =
    list_any-append (λ (c : Contact). rank c.key == n) noted more ∙ ap (λ t. t || has_rank more n) is

ranks_back : (noted more : List Contact) (n : ℕ) → has_rank more n ≡ true → has_rank (noted ++ more) n ≡ true
ranks_back noted more n is =
    list_any-append (λ (c : Contact). rank c.key == n) noted more ∙ or_right (has_rank noted n) (has_rank more n) is

-- what may change still may, when more is noted
pub still_may : (keeps : Bool) (noted more : List Contact) (n : ℕ) → (not keeps || has_rank noted n) ≡ true
    → (not keeps || has_rank (noted ++ more) n) ≡ true
still_may true noted more n may = ranks_front noted more n may
still_may false noted more n may = refl

-- the impulses of contacts whose rows are noted may change
rows_may : (contacts : List Contact) (rows : List Row) → All (IsRowAt contacts) rows
    → All (λ r. has_rank (map (contact_of_row contacts) rows) (row_rank r) ≡ true) rows
rows_may contacts [] at = All-nil (λ r. has_rank [] (row_rank r) ≡ true)
rows_may contacts (r ∷ rows) at =
    let n = contact_of_row contacts r in
    let more = map (contact_of_row contacts) rows in
    All-cons (λ x. has_rank (n ∷ more) (row_rank x) ≡ true) r rows
    (ap (λ t. t || has_rank more (row_rank r))
    ((Decides-eqb (rank n.key) (row_rank r)).1 (ap rank (All-head (IsRowAt contacts) r rows at).key)))
    (All-weaker (λ x. has_rank more (row_rank x) ≡ true) (λ x. has_rank (n ∷ more) (row_rank x) ≡ true)
    (λ x may. or_right (rank n.key == row_rank x) (has_rank more (row_rank x)) may) rows
    (rows_may contacts rows (All-tail (IsRowAt contacts) r rows at)))

pub noted_may : (keeps : Bool) (contacts noted : List Contact) (rows : List Row) → All (IsRowAt contacts) rows
    → All (λ r. (not keeps || has_rank (noted ++ map (contact_of_row contacts) rows) (row_rank r)) ≡ true) rows
noted_may keeps contacts noted rows at =
    let more = map (contact_of_row contacts) rows in
    All-weaker (λ r. has_rank more (row_rank r) ≡ true) (λ r. (not keeps || has_rank (noted ++ more) (row_rank r)) ≡ true)
    (λ r may. or_right (not keeps) (has_rank (noted ++ more) (row_rank r)) (ranks_back noted more (row_rank r) may)) rows
    (rows_may contacts rows at)

-- ---- an update

-- the contacts from a place on are in the order of their keys
pub rest_are_contacts : (k : ℕ) (contacts : List Contact) → AreContacts contacts → AreContacts (drop k contacts)
rest_are_contacts k contacts order = record {
  rising = rising-drop rank_of k contacts order.rising;
  keys = All-drop (λ c. IsKey c.key) k contacts order.keys;
}
