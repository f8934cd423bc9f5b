-- The walk along contacts and keys, both in the order of the keys.
use Rattle.std.proofs.Common.{◌≡◌, ℕ, suc, ◌+◌, ◌≤◌, ◌<◌, List, [], ◌∷◌, ◌++◌, take, length, map, refl, sym, ◌∙◌, ap, ap₂, subst, arith}
use Rattle.std.proofs.lemmas.List.{drop_more, map_more}
use Rattle.std.proofs.lemmas.List.Elements.{All-head, All-tail}
use Rattle.std.specs.Prelude.{All, drop, get_or}
use Rattle.pf_manifold.specs.Key.{IsRising, Key, rank}
use Rattle.pf_rows.specs.Impulses.{Impulses}
use Rattle.pf_cache.specs.Contact.{Contact, contact_of_key, impulses_at}
use Rattle.pf_manifold.proofs.Rising.{rising-all, rising-drop}

-- what each element of a list reads of another list from a place on. The elements are in the order
-- of their ranks, and the place moves on past what they no longer read
module _ {T V : Type 0} (ranked : T → ℕ) (read : T → ℕ → V) where
  -- an element reads from this place on what it reads from the start
  abbrev pub ReadsFrom : ℕ → T → Type 0
  ReadsFrom place t = read t place ≡ read t 0

  -- where the next place is the same for the element at i and all above it
  module _ (ts : List T) (i place next : ℕ) (d : T) (within : i < length ts)
      (further : (t : T) → ranked (get_or ts i d) ≤ ranked t → read t next ≡ read t place)
      (same : All (ReadsFrom place) (drop i ts)) where
    -- the element at i reads the same from the next place
    pub reads_here : ReadsFrom next (get_or ts i d)
    reads_here =
        let here = get_or ts i d in
        let all = subst (All (ReadsFrom place)) (drop_more ts i d within) same in
        further here (omega arith) ∙ All-head (ReadsFrom place) here (drop (i + 1) ts) all

  -- where the next place is the same for all above the element at i, they read the same from it
  pub reads_behind : (ts : List T) (i place next : ℕ) (d : T) → i < length ts
      → ((t : T) → ranked (get_or ts i d) < ranked t → read t next ≡ read t place)
      → All (ReadsFrom place) (drop i ts) → IsRising 0 (map ranked ts) → All (ReadsFrom next) (drop (i + 1) ts)
  reads_behind ts i place next d within further same rising =
      let split = drop_more ts i d within in
      let here = get_or ts i d in
      let behind = drop (i + 1) ts in
      let from = subst (λ xs. IsRising 0 (map ranked xs)) split (rising-drop ranked i ts rising) in
      let above = rising-all ranked (suc (ranked here)) behind from.1 in
      let kept = All-tail (ReadsFrom place) here behind (subst (All (ReadsFrom place)) split same) in
      λ k e w.
      let high = above k e w in
      further (get_or behind k e) (omega (arith, high)) ∙ kept k e w

-- what a key has from a place of the contacts on
abbrev of_key : List Contact → Key → ℕ → Impulses
of_key contacts k place = impulses_at (rank k) (drop place contacts)

-- the contacts from a place on have the impulses of this key
abbrev pub SameFrom : List Contact → ℕ → Key → Type 0
SameFrom contacts place k = impulses_at (rank k) (drop place contacts) ≡ impulses_at (rank k) contacts

-- a step of the walk: the key k at i
module _ (contacts : List Contact) (keys : List Key) (i place : ℕ) (d k : Key) (within : i < length keys)
    (k_is : k ≡ get_or keys i d) (same : All (SameFrom contacts place) (drop i keys)) where
  -- the contact of the key
  pub made_step : (made after : List Contact) (p : Impulses) → p ≡ impulses_at (rank k) (drop place contacts)
      → made ≡ map (contact_of_key contacts) (take i keys)
      → after ≡ made ++ record { key = k; impulses = p } ∷ []
      → after ≡ map (contact_of_key contacts) (take (i + 1) keys)
  made_step made after p found done pushed =
      let here = get_or keys i d in
      let own : p ≡ impulses_at (rank here) contacts =
      found ∙ ap (λ x. impulses_at (rank x) (drop place contacts)) k_is
      ∙ reads_here rank (of_key contacts) keys i place place d within (λ x high. refl) same in
      pushed ∙ ap₂ (λ xs x. xs ++ record { key = x; impulses = p } ∷ []) done k_is
      ∙ ap (λ q. map (contact_of_key contacts) (take i keys) ++ record { key = here; impulses = q } ∷ []) own
      ∙ sym (map_more (contact_of_key contacts) keys i d within)

  -- and a place from which all higher ranks have what they have from this one
  pub same_step : (last : ℕ)
      → ((n : ℕ) → rank k < n → impulses_at n (drop last contacts) ≡ impulses_at n (drop place contacts))
      → IsRising 0 (map rank keys) → All (SameFrom contacts last) (drop (i + 1) keys)
  same_step last later rising =
      reads_behind rank (of_key contacts) keys i place last d within
      (λ x high. later (rank x) (subst (λ y. rank y < rank x) (sym k_is) high)) same rising
