-- Worlds: what a tick changes. The bodies as Box2D-Lite's World::bodies, by their numbers, and the
-- contacts as its World::arbiters.
use Rattle.std.specs.Prelude.{Bool, ◌&&◌, List, []}
use Rattle.std.specs.Cmp.Lexicographic.{pointwise}
use Rattle.pf_shapes.specs.Body.{BodyState}
use Rattle.pf_shapes.specs.Scene.{Scene}
use Rattle.pf_shapes.specs.Same.{same_state}
use Rattle.pf_cache.specs.Contact.{Contact}
use Rattle.pf_cache.specs.Same.{same_contacts}

-- one state for each body of the scene, in order of their numbers, and the contacts in the order of
-- their keys
pub record World : Type 0 where
  pub bodies : List BodyState
  pub contacts : List Contact

-- the world at tick 0: each body at its start, and no contacts
unfoldable pub start_world : Scene → World
start_world s = record { bodies = s.starts; contacts = [] }

-- equal in each part of each body, and in each contact
abbrev pub same_world : World → World → Bool
same_world a b = pointwise same_state a.bodies b.bodies && same_contacts a.contacts b.contacts
