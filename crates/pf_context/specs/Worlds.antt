-- Worlds in buffers of a caller.
use Rattle.std.specs.Prelude.{◌≡◌, ◌≤◌, ◌++◌, ℕ, List, Option, None, Some, Result, Ok, Err, drop, length, map}
use Rattle.pf_rollback.specs.declared.error.Refusal.{Refusal}
use Rattle.pf_rollback.specs.Core.{PeerCore}
use Rattle.pf_rollback.specs.Peer.{world_at}
use Rattle.pf_step.specs.World.{World}
use Rattle.pf_context.specs.declared.error.ContextError.{ContextError}
use Rattle.pf_context.specs.declared.error.ContextError.TheVariants.{BadKey, OutOfMemory, Refused, SmallBuffers}
use Rattle.pf_context.specs.declared.plain.PlainBody.{PlainBody}
use Rattle.pf_context.specs.declared.plain.PlainContact.{PlainContact}
use Rattle.pf_context.specs.declared.plain.Sizes.{Sizes}
use Rattle.pf_context.specs.Plain.{plain_body, plain_contact}

-- how many bodies and contacts a world has
abbrev pub sizes_of : World → Sizes
sizes_of w = record { bodies = length w.bodies; contacts = length w.contacts }

-- what a caller lends for a world
pub record Buffers : Type 0 where
  pub bodies : List PlainBody
  pub contacts : List PlainContact

-- the world fits into the buffers
pub record FitsInto (w : World) (b : Buffers) : Type 0 where
  pub bodies : length w.bodies ≤ length b.bodies
  pub contacts : length w.contacts ≤ length b.contacts

-- the buffers, with a world at their fronts
abbrev pub with_world : World → Buffers → Buffers
with_world w b = record {
  bodies = map plain_body w.bodies ++ drop (length w.bodies) b.bodies;
  contacts = map plain_contact w.contacts ++ drop (length w.contacts) b.contacts;
}

-- A world is written where it fits, and else nothing; what it needs is returned either way. Nothing
-- is written where there is no world to show, or no memory.
abbrev pub WritesWorld : Result World Refusal → Buffers → Buffers → Result Sizes ContextError
    → Type 0
WritesWorld (Err refusal) old new result = (result ≡ Err (Refused refusal)) × (new ≡ old)
WritesWorld (Ok w) old new (Ok sizes) =
    FitsInto w old × (sizes ≡ sizes_of w) × (new ≡ with_world w old)
WritesWorld (Ok w) old new (Err (SmallBuffers sizes)) =
    (¬ FitsInto w old) × (sizes ≡ sizes_of w) × (new ≡ old)
WritesWorld (Ok w) old new (Err OutOfMemory) = new ≡ old
WritesWorld (Ok w) old new (Err error) = ⊥

-- the world at a tick of a peer that a key names
abbrev pub ShowsWorld : Option PeerCore → ℕ → Buffers → Buffers → Result Sizes ContextError
    → Type 0
ShowsWorld None tick old new result = (result ≡ Err BadKey) × (new ≡ old)
ShowsWorld (Some core) tick old new result =
    WritesWorld (world_at core.scene core.peer tick) old new result

-- the world at the horizon of a peer that a key names
abbrev pub ShowsBase : Option PeerCore → Buffers → Buffers → Result Sizes ContextError → Type 0
ShowsBase None old new result = (result ≡ Err BadKey) × (new ≡ old)
ShowsBase (Some core) old new result = WritesWorld (Ok core.peer.base) old new result
