-- Contacts from a place on.
use Rattle.std.proofs.Common.{◌≡◌, ℕ, ◌+◌, ◌≤◌, ◌<◌, List, ◌∷◌, length, map}
use Rattle.std.specs.Prelude.{All, drop, get_or}
use Rattle.pf_manifold.specs.Key.{IsRising, rank}
use Rattle.pf_rows.specs.Impulses.{Impulses, no_impulses}
use Rattle.pf_cache.specs.Contact.{Contact, impulses_at}
use Rattle.pf_cache.proofs.RankedLists as ranked

abbrev rank_of : Contact → ℕ
rank_of c = rank c.key

abbrev impulses_of : Contact → Impulses
impulses_of c = c.impulses

-- a contact of another rank has no part
pub other_rank : (n : ℕ) (c : Contact) (contacts : List Contact) → rank c.key < n
    → impulses_at n (c ∷ contacts) ≡ impulses_at n contacts
other_rank = ranked.other_rank rank_of impulses_of no_impulses

-- a contact whose rank is too low is passed by
pub passed : (contacts : List Contact) (place least n : ℕ) (d : Contact) → place < length contacts
    → rank (get_or contacts place d).key < least → least ≤ n
    → impulses_at n (drop (place + 1) contacts) ≡ impulses_at n (drop place contacts)
passed = ranked.passed rank_of impulses_of no_impulses

-- from a place where all ranks are at least this one, a contact of this rank stands first
pub found_here : (contacts : List Contact) (place n : ℕ) (d : Contact) → place < length contacts
    → rank (get_or contacts place d).key ≡ n
    → impulses_at n (drop place contacts) ≡ (get_or contacts place d).impulses
found_here = ranked.found_here rank_of impulses_of no_impulses

-- and if the first contact is another, there is none
pub found_other : (contacts : List Contact) (place n : ℕ) (d : Contact) → place < length contacts → IsRising 0 (map rank_of contacts)
    → All (λ c. n ≤ rank c.key) (drop place contacts) → (rank (get_or contacts place d).key ≡ n → ⊥)
    → impulses_at n (drop place contacts) ≡ no_impulses
found_other = ranked.found_other rank_of impulses_of no_impulses

-- after the last contact there is none
pub found_nowhere : (contacts : List Contact) (place n : ℕ) → length contacts ≤ place → impulses_at n (drop place contacts) ≡ no_impulses
found_nowhere = ranked.found_nowhere rank_of impulses_of no_impulses
