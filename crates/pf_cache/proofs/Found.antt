-- Contacts are found by their keys.
use Rattle.std.proofs.Common.{◌≡◌, ◌≢◌, ℕ, suc, ◌==◌, Bool, true, false, List, [], ◌∷◌, map, refl, sym, ◌∙◌, true≢false, arith}
use Rattle.std.proofs.lemmas.Bool.Decides.{Decides-eqb}
use Rattle.std.proofs.lemmas.List.Elements.{All-nil, All-cons, All-head, All-tail}
use Rattle.std.specs.Prelude.{if◌then◌else◌, get_or}
use Rattle.pf_manifold.specs.Key.{Key, IsRising, rank}
use Rattle.pf_rows.specs.Impulses.{no_impulses}
use Rattle.pf_cache.specs.Contact.{Contact, impulses_at}
use Rattle.pf_cache.specs.Laws.{AreFoundByKey, IsNew}
use Rattle.pf_manifold.proofs.Rising.{rising-all}
use Rattle.pf_cache.proofs.Places.{other_rank}

abbrev rank_of : Contact → ℕ
rank_of c = rank c.key

own_rank : (c : Contact) (contacts : List Contact) → impulses_at (rank c.key) (c ∷ contacts) ≡ c.impulses
own_rank c contacts = by (rank c.key == rank c.key) ((Decides-eqb (rank c.key) (rank c.key)).1 refl)
  where
    by : (t : Bool) → t ≡ true → (if t then c.impulses else impulses_at (rank c.key) contacts) ≡ c.impulses
    by true e = refl
    by false e = absurd (true≢false (sym e))

pub all_found : (least : ℕ) (contacts : List Contact) → IsRising least (map rank_of contacts) → AreFoundByKey contacts
all_found least [] h = All-nil (λ c. impulses_at (rank c.key) [] ≡ c.impulses)
all_found least (c ∷ contacts) h =
    let above = rising-all rank_of (suc (rank c.key)) contacts h.1 in
    let behind = all_found (suc (rank c.key)) contacts h.1 in
    All-cons (λ x. impulses_at (rank x.key) (c ∷ contacts) ≡ x.impulses) c contacts (own_rank c contacts)
    (λ k d w.
    let high = above k d w in
    other_rank (rank (get_or contacts k d).key) c contacts (omega (arith, high)) ∙ behind k d w)

pub new_has_none : (k : Key) (contacts : List Contact) → IsNew k contacts → impulses_at (rank k) contacts ≡ no_impulses
new_has_none k [] h = refl
new_has_none k (c ∷ contacts) h =
    by (rank c.key == rank k) refl (new_has_none k contacts (All-tail (λ x. rank x.key ≢ rank k) c contacts h))
  where
    by : (t : Bool) → (rank c.key == rank k) ≡ t → impulses_at (rank k) contacts ≡ no_impulses
        → (if t then c.impulses else impulses_at (rank k) contacts) ≡ no_impulses
    by true e behind =
        absurd (All-head (λ x. rank x.key ≢ rank k) c contacts h ((Decides-eqb (rank c.key) (rank k)).0 e))
    by false e behind = behind
