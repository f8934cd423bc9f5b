-- Islands put back into their world, as Box2D 2.x's b2Island::Solve leaves its bodies and
-- b2ContactSolver::StoreImpulses its contacts.
use Rattle.std.specs.Prelude.{◌≡◌, ℕ, ◌<◌, List, All, fold, length, slice_set}
use Rattle.std.specs.List.{zip}
use Rattle.pf_shapes.specs.Body.{BodyState}
use Rattle.pf_cache.specs.Contact.{Contact}
use Rattle.pf_cache.specs.ContactRows.{with_rows}
use Rattle.pf_islands.specs.Split.{Island}

-- the bodies, where each of an island has the state that it has there
abbrev pub with_states : Island → List BodyState → List BodyState
with_states i bodies = fold (λ bs m. slice_set bs m.0 m.1) bodies (zip i.numbers i.bodies)

-- the bodies after all islands were put back
abbrev pub joined_bodies : List Island → List BodyState → List BodyState
joined_bodies islands bodies = fold (λ bs i. with_states i bs) bodies islands

-- the contacts after all islands were put back: each that an island has is as it is there
abbrev pub joined_contacts : List Island → List Contact → List Contact
joined_contacts islands contacts = fold (λ cs i. with_rows cs i.rows) contacts islands

-- an island of a world with so many bodies, with one state for each of its numbers
pub record IsAtHome (bodies : ℕ) (i : Island) : Type 0 where
  pub paired : length i.bodies ≡ length i.numbers
  pub within : All (λ n. n < bodies) i.numbers
