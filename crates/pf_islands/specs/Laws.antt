-- What laws of islands speak of.
use Rattle.std.specs.Prelude.{◌≡◌, ℕ, true, List, Some, slice_get}
use Rattle.pf_shapes.specs.Body.{BodyState}
use Rattle.pf_shapes.specs.Scene.{Scene}
use Rattle.pf_manifold.specs.Key.{key_of}
use Rattle.pf_manifold.specs.Touches.{Touch}
use Rattle.pf_cache.specs.Contact.{Contact}
use Rattle.pf_rows.specs.Row.{Row}
use Rattle.pf_islands.specs.Group.{groups}
use Rattle.pf_islands.specs.Island.{touches_one}
use Rattle.pf_islands.specs.Rows.{active_rows}
use Rattle.pf_islands.specs.Sleep.{woken_bodies}
use Rattle.pf_islands.specs.Split.{Island, islands}

-- bodies after the phase Activity
abbrev pub active_bodies : Scene → List Touch → List BodyState → List BodyState
active_bodies s touches bodies = woken_bodies (groups s touches) bodies

-- the rows of the contacts that are simulated
abbrev pub rows_of : Scene → List Touch → List BodyState → List Contact → List Row
rows_of s touches bodies contacts =
    active_rows s (active_bodies s touches bodies) touches contacts

-- the islands of bodies with these contact points and contacts
abbrev pub islands_of : Scene → List Touch → List BodyState → List Contact → List Island
islands_of s touches bodies contacts =
    islands (groups s touches) (active_bodies s touches bodies) (rows_of s touches bodies contacts)

-- island k of a list has the body of this number, in this state
pub record HasBody (islands : List Island) (k n : ℕ) (b : BodyState) : Type 0 where
  pub island : Island
  pub place : ℕ
  pub is_there : slice_get islands k ≡ Some island
  pub number : slice_get island.numbers place ≡ Some n
  pub state : slice_get island.bodies place ≡ Some b

-- island k of a list has a contact
pub record HasRow (islands : List Island) (k : ℕ) (r : Row) : Type 0 where
  pub island : Island
  pub is_there : slice_get islands k ≡ Some island
  pub touched : touches_one island.numbers r ≡ true

-- island k of a list has this row
pub record HoldsRow (islands : List Island) (k : ℕ) (r : Row) : Type 0 where
  pub island : Island
  pub place : ℕ
  pub is_there : slice_get islands k ≡ Some island
  pub row : slice_get island.rows place ≡ Some r

-- no body is in two islands
abbrev pub HaveOwnBodies : List Island → Type 0
HaveOwnBodies islands =
    (k l n : ℕ) (b c : BodyState) → HasBody islands k n b → HasBody islands l n c → k ≡ l

-- no contact is in two islands
abbrev pub HaveOwnContacts : List Island → Type 0
HaveOwnContacts islands =
    (k l : ℕ) (q r : Row) → HoldsRow islands k q → HoldsRow islands l r
    → key_of q.entry.touch ≡ key_of r.entry.touch → k ≡ l
