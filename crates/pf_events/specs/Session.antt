-- The abstract session: peers of one scene, and the reply to each event on them, one event after
-- the other.
use Rattle.std.specs.Prelude.{◌≡◌, ◌==◌, if◌then◌else◌, ℕ, ◌<◌, ◌≤◌, ◌⊎◌, All, length, List, [], ◌∷◌, Result, Ok, Err, IsErr, IsSome, map, slice_index_or, slice_set}
use Rattle.std.specs.FinMap.{get}
use Rattle.std.specs.List.{range_with_len}
use Rattle.pf_shapes.specs.Scene.{Scene}
use Rattle.pf_shapes.specs.declared.fixture.TheConstants.{PLAYERS}
use Rattle.pf_commands.specs.News.{news}
use Rattle.pf_step.specs.World.{World}
use Rattle.pf_rollback.specs.declared.error.Refusal.{Refusal}
use Rattle.pf_rollback.specs.Core.{PeerCore}
use Rattle.pf_rollback.specs.Peer.{Peer, new_peer, put, issue, take, merge_sealed, advance, seal, IsEmptyBefore, world_at}
use Rattle.pf_events.specs.declared.event.Event.{Event}
use Rattle.pf_events.specs.declared.event.Event.TheVariants.{Issue, Take, Merge, Advance, Settle, Show, Seal}
use Rattle.pf_events.specs.declared.event.Reply.{Reply}
use Rattle.pf_events.specs.declared.event.Reply.TheVariants.{Issued, Took, Merged, Advanced, Settled, Shown, Sealed, Refused}

-- the peers of a scene, by their numbers
pub record Session : Type 0 where
  pub scene : Scene
  pub peers : List Peer

-- the cores of at most eight peers of a scene
pub record AreCores (scene : Scene) (cores : List PeerCore) : Type 0 where
  pub few : length cores ≤ PLAYERS
  pub scenes : All (λ core. core.scene ≡ scene) cores

-- so many peers, each of the player of its number
abbrev pub new_session : Scene → ℕ → Session
new_session scene count =
    record { scene = scene; peers = map (new_peer scene) (range_with_len 0 count) }

-- the peer of a number
abbrev pub peer_in : Session → ℕ → Peer
peer_in s i = slice_index_or s.peers i (new_peer s.scene 0)

-- the number of an event's peer
abbrev pub event_peer : Event → ℕ
event_peer (Issue peer payload) = peer
event_peer (Take peer decoded) = peer
event_peer (Merge peer other) = peer
event_peer (Advance peer ticks) = peer
event_peer (Settle peer) = peer
event_peer (Show peer tick) = peer
event_peer (Seal peer tick) = peer

-- the number of the peer whose commands are merged; for other events that of their peer
abbrev pub other_peer_of : Event → ℕ
other_peer_of (Issue peer payload) = peer
other_peer_of (Take peer decoded) = peer
other_peer_of (Merge peer other) = other
other_peer_of (Advance peer ticks) = peer
other_peer_of (Settle peer) = peer
other_peer_of (Show peer tick) = peer
other_peer_of (Seal peer tick) = peer

-- ---- one event

-- the reply to a call, and the peer after it; a refused call changes nothing
abbrev pub reply_and_peer
    : {A : Type 0} → (A → Reply) → Peer → Result (A × Peer) Refusal → Reply × Peer
reply_and_peer reply p (Ok answer) = (reply answer.0, answer.1)
reply_and_peer reply p (Err refusal) = (Refused refusal, p)

-- the reply of a world, if there is one
abbrev pub world_reply : ℕ → ℕ → Result World Refusal → Reply
world_reply peer tick (Ok world) = Shown peer tick world
world_reply peer tick (Err refusal) = Refused refusal

-- what a peer merges of another one
abbrev pub merge_of : Scene → Peer → Peer → Result (ℕ × Peer) Refusal
merge_of s p q = merge_sealed s p q.horizon q.base q.commands

-- the reply to an event on its peer, and the peer after it, where q is the other peer of a merge; a
-- merge of a peer with itself changes nothing, nor does a settle, which only simulates earlier what
-- later replies would simulate
unfoldable pub peer_answer : Scene → Peer → Peer → Event → Reply × Peer
peer_answer s q p (Issue peer payload) =
    reply_and_peer (λ frame. Issued peer frame) p (issue s p payload)
peer_answer s q p (Take peer decoded) =
    reply_and_peer (λ put. Took peer put) p (take s p decoded)
peer_answer s q p (Merge peer other) =
    if other == peer then (Merged peer 0, p)
    else reply_and_peer (λ count. Merged peer count) p (merge_of s p q)
peer_answer s q p (Advance peer ticks) =
    reply_and_peer (λ reached. Advanced peer reached) p (advance p ticks)
peer_answer s q p (Settle peer) = (Settled peer p.reached, p)
peer_answer s q p (Show peer tick) = (world_reply peer tick (world_at s p tick), p)
peer_answer s q p (Seal peer tick) =
    reply_and_peer (λ done. Sealed peer tick) p (seal s p tick)

-- no memory is needed for the reply to an event: it is refused, or a name that is held is taken,
-- or no command that is merged is new or greater, or ticks are advanced, or the reached tick is the
-- horizon, or a world without bodies is shown or sealed before any command, or the horizon is
-- sealed again
abbrev pub NeedsNoMemory : Scene → Peer → Peer → Event → Type 0
NeedsNoMemory s q p (Issue peer payload) = IsErr (issue s p payload)
NeedsNoMemory s q p (Take peer (Ok c)) = IsErr (put s p c) ⊎ IsSome (get p.commands c.name)
NeedsNoMemory s q p (Take peer (Err fault)) = Unit {0}
NeedsNoMemory s q p (Merge peer other) =
    (other ≡ peer) ⊎ (IsErr (merge_of s p q) ⊎ (news p.commands q.commands ≡ []))
NeedsNoMemory s q p (Advance peer ticks) = Unit {0}
NeedsNoMemory s q p (Settle peer) = p.reached ≡ p.horizon
NeedsNoMemory s q p (Show peer tick) = IsErr (world_at s p tick) ⊎ IsEmptyBefore p tick
NeedsNoMemory s q p (Seal peer tick) =
    IsErr (seal s p tick) ⊎ ((tick ≡ p.horizon) ⊎ IsEmptyBefore p tick)

-- the other peer of an event
abbrev pub other_peer_at : Session → Event → Peer
other_peer_at s event = peer_in s (other_peer_of event)

-- the reply to an event on a session, and the session after it
abbrev pub answer : Session → Event → Reply × Session
answer s event =
    let p = peer_in s (event_peer event) in
    let a = peer_answer s.scene (other_peer_at s event) p event in
    (a.0, record s { peers = slice_set s.peers (event_peer event) a.1 })

abbrev pub reply_to : Session → Event → Reply
reply_to s event = (answer s event).0

abbrev pub session_after : Session → Event → Session
session_after s event = (answer s event).1

-- ---- a list of events

-- the replies, one after the other
unfoldable pub replies_to : Session → List Event → List Reply
replies_to s [] = []
replies_to s (event ∷ events) = reply_to s event ∷ replies_to (session_after s event) events

-- the session after all of them
unfoldable pub session_after_all : Session → List Event → Session
session_after_all s [] = s
session_after_all s (event ∷ events) = session_after_all (session_after s event) events

-- the event is on one of so many peers, and so is the other peer of a merge
abbrev pub IsAmong : ℕ → Event → Type 0
IsAmong peers event = (event_peer event < peers) × (other_peer_of event < peers)
