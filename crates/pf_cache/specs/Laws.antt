-- Words of the laws of contacts.
use Rattle.std.specs.Prelude.{◌≡◌, ◌≢◌, ℕ, Some, List, All, slice_get}
use Rattle.pf_manifold.specs.Key.{Key, rank}
use Rattle.pf_manifold.specs.PlacedShape.{PlacedShape}
use Rattle.pf_cache.specs.Contact.{Contact, impulses_at}

-- each contact is found by its key
abbrev pub AreFoundByKey : List Contact → Type 0
AreFoundByKey contacts = All (λ c. impulses_at (rank c.key) contacts ≡ c.impulses) contacts

-- a key that no contact has
abbrev pub IsNew : Key → List Contact → Type 0
IsNew k contacts = All (λ c. rank c.key ≢ rank k) contacts

-- a body that has the same shape, position and rotation in both lists
abbrev pub IsUnmoved : List PlacedShape → List PlacedShape → ℕ → Type 0
IsUnmoved old shapes i =
    (s : PlacedShape) × (slice_get old i ≡ Some s) × (slice_get shapes i ≡ Some s)
