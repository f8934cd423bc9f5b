-- What a tick changes in the contacts of a world, so that the contacts before can be restored.
use Rattle.std.specs.Prelude.{Bool, true, ℕ, ◌==◌, ◌||◌, List, [], ◌∷◌, map, not, slice_index_or, if◌then◌else◌}
use Rattle.std.specs.List.{list_any}
use Rattle.pf_manifold.specs.Key.{rank}
use Rattle.pf_rows.specs.Impulses.{Impulses}
use Rattle.pf_rows.specs.Row.{Row}
use Rattle.pf_cache.specs.Contact.{Contact, no_contact}

-- A tick leaves the contacts in place, each with its key, and some of them are noted with the
-- impulses that they had before. Or it makes all contacts anew, and these are the ones before it.
pub record ContactsChange : Type 0 where
  pub in_place : Bool
  pub noted : List Contact
  pub before : List Contact

-- no change: the contacts before it are those after it
abbrev pub no_contacts_change : ContactsChange
no_contacts_change = record { in_place = true; noted = []; before = [] }

-- the contact at the place of a row
abbrev pub contact_of_row : List Contact → Row → Contact
contact_of_row contacts r = slice_index_or contacts r.entry.place no_contact

-- the impulses that are noted of the contact of this rank, or these if none are
abbrev pub noted_or : Impulses → ℕ → List Contact → Impulses
noted_or p n [] = p
noted_or p n (c ∷ noted) = if rank c.key == n then c.impulses else noted_or p n noted

-- contacts, where each that is noted has the impulses that are noted of it
unfoldable pub with_noted : List Contact → List Contact → List Contact
with_noted contacts noted =
    map (λ (c : Contact). record c { impulses = noted_or c.impulses (rank c.key) noted }) contacts

-- whether one of these contacts has this rank
abbrev pub has_rank : List Contact → ℕ → Bool
has_rank contacts n = list_any (λ c. rank c.key == n) contacts

-- whether the impulses of the contact of this rank may change, so that the contacts before can
-- still be restored: they are noted, or all contacts were made anew
abbrev pub may_change : ContactsChange → ℕ → Bool
may_change change n = not change.in_place || has_rank change.noted n

-- the contacts before a change, of those after it
abbrev pub contacts_before : ContactsChange → List Contact → List Contact
contacts_before change contacts =
    if change.in_place then with_noted contacts change.noted else change.before
