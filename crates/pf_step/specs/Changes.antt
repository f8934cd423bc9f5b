-- What a step changed in a world, so that the world before the step can be restored.
use Rattle.std.specs.Prelude.{◌≡◌, ℕ, ◌<◌, List, [], ◌∷◌, ◌++◌, All, true, map, Option, Some, None, slice_get, slice_set}
use Rattle.std.specs.List.{flat_map}
use Rattle.pf_shapes.specs.Body.{BodyState}
use Rattle.pf_manifold.specs.Key.{key_of, rank}
use Rattle.pf_rows.specs.Row.{Row}
use Rattle.pf_cache.specs.ContactsChange.{ContactsChange, contacts_before, may_change, no_contacts_change}
use Rattle.pf_commands.specs.declared.payload.Payload.{Payload}
use Rattle.pf_commands.specs.Payload.{body_of}
use Rattle.pf_islands.specs.Split.{Island}
use Rattle.pf_step.specs.World.{World}

-- a body that changed, by its number, and its state before
pub record BodyChange : Type 0 where
  pub number : ℕ
  pub before : BodyState

-- the changes of bodies, in their order, and the change of the contacts
pub record Changes : Type 0 where
  pub bodies : List BodyChange
  pub contacts : ContactsChange

-- nothing changed
abbrev pub no_changes : Changes
no_changes = record { bodies = []; contacts = no_contacts_change }

-- the bodies before some changes, of those after them: the last change is undone first
unfoldable pub bodies_before : List BodyChange → List BodyState → List BodyState
bodies_before [] bodies = bodies
bodies_before (c ∷ changes) bodies = slice_set (bodies_before changes bodies) c.number c.before

-- the world before a step, of the world after it
unfoldable pub world_before : Changes → World → World
world_before changes w = record {
  bodies = bodies_before changes.bodies w.bodies;
  contacts = contacts_before changes.contacts w.contacts;
}

-- the numbers of the bodies that are noted
abbrev pub numbers_of : List BodyChange → List ℕ
numbers_of changes = map (λ c. c.number) changes

-- the new changes are the old ones, and then others of bodies with numbers below a count
abbrev pub AreAdded : ℕ → List BodyChange → List BodyChange → Type 0
AreAdded count old new =
    (more : List BodyChange) × (new ≡ old ++ more) × All (λ c. c.number < count) more

-- ---- what is noted before bodies change

abbrev pub change_if : ℕ → Option BodyState → List BodyChange
change_if number (Some before) = record { number = number; before = before } ∷ []
change_if number None = []

-- a body as it is, if there is one with this number
abbrev pub change_of : List BodyState → ℕ → List BodyChange
change_of bodies number = change_if number (slice_get bodies number)

-- some bodies as they are
abbrev pub changes_of : List BodyState → List ℕ → List BodyChange
changes_of bodies numbers = flat_map (change_of bodies) numbers

-- the bodies that commands are for
abbrev pub changes_by_commands : List BodyState → List Payload → List BodyChange
changes_by_commands bodies payloads = flat_map (λ p. change_of bodies (body_of p)) payloads

-- the bodies of islands
abbrev pub changes_of_islands : List BodyState → List Island → List BodyChange
changes_of_islands bodies islands = flat_map (λ i. changes_of bodies i.numbers) islands

-- the impulses of the contacts of these rows may change, so that the contacts before can still be
-- restored
abbrev pub MayChange : ContactsChange → List Row → Type 0
MayChange change rows = All (λ r. may_change change (rank (key_of r.entry.touch)) ≡ true) rows
