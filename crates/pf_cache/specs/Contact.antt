-- Contacts: what is kept of a contact point from tick to tick, as Box2D-Lite's Arbiter keeps Pn and
-- Pt. The next tick starts warm with them.
use Rattle.std.specs.Prelude.{ℕ, ◌==◌, List, [], ◌∷◌, map, All, if◌then◌else◌}
use Rattle.pf_manifold.specs.Touches.{Touch}
use Rattle.pf_manifold.specs.Key.{IsKey, IsRising, Key, key_of, rank}
use Rattle.pf_rows.specs.Impulses.{Impulses, no_impulses}

pub record Contact : Type 0 where
  pub key : Key
  pub impulses : Impulses

-- keys in their order, each once
pub record AreKeys (keys : List Key) : Type 0 where
  pub rising : IsRising 0 (map rank keys)
  pub each : All IsKey keys

-- what is read where there is no contact
abbrev pub no_contact : Contact
no_contact = record { key = record { a = 0; b = 0; feature = 0 }; impulses = no_impulses }

-- contacts in the order of their keys, each key once
pub record AreContacts (contacts : List Contact) : Type 0 where
  pub rising : IsRising 0 (map (λ c. rank c.key) contacts)
  pub keys : All (λ c. IsKey c.key) contacts

-- the accumulated impulses of the contact of this rank, none where there is no such contact
abbrev pub impulses_at : ℕ → List Contact → Impulses
impulses_at n [] = no_impulses
impulses_at n (c ∷ contacts) = if rank c.key == n then c.impulses else impulses_at n contacts

-- the contact of a point, with the accumulated impulses that its key had
abbrev pub kept_contact : List Contact → Touch → Contact
kept_contact old t = record { key = key_of t; impulses = impulses_at (rank (key_of t)) old }

-- the contacts of these points: a key that is there keeps its impulses, a new one has none
unfoldable pub next_contacts : List Contact → List Touch → List Contact
next_contacts old touches = map (kept_contact old) touches

-- the contact of this key, with the accumulated impulses that it had
abbrev pub contact_of_key : List Contact → Key → Contact
contact_of_key old k = record { key = k; impulses = impulses_at (rank k) old }

-- the contacts of these keys: one that is there keeps its impulses, a new one has none
unfoldable pub contacts_of_keys : List Contact → List Key → List Contact
contacts_of_keys old keys = map (contact_of_key old) keys
