-- The contacts of a world beside the rows that the solver makes of them.
use Rattle.std.specs.Prelude.{◌≡◌, ◌<◌, List, All, length, map, slice_index_or}
use Rattle.pf_manifold.specs.Key.{key_of, rank}
use Rattle.pf_rows.specs.Row.{AreRows, Row, impulses_or}
use Rattle.pf_cache.specs.Contact.{Contact, no_contact}

-- the contact at the place of a row has its key
pub record IsRowAt (contacts : List Contact) (r : Row) : Type 0 where
  pub within : r.entry.place < length contacts
  pub key : (slice_index_or contacts r.entry.place no_contact).key ≡ key_of r.entry.touch

-- rows in the order of their keys, each with the key of the contact at its place
pub record AreRowsAt (contacts : List Contact) (rows : List Row) : Type 0 where
  pub order : AreRows rows
  pub places : All (IsRowAt contacts) rows

-- the contacts, where each that has a row has the accumulated impulses of its row
unfoldable pub with_rows : List Contact → List Row → List Contact
with_rows contacts rows =
    map (λ (c : Contact). record c { impulses = impulses_or c.impulses (rank c.key) rows }) contacts
