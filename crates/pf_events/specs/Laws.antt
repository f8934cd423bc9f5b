-- What laws of sessions speak of.
use Rattle.std.specs.Prelude.{◌≡◌, ℕ, List, [], ◌∷◌, ◌++◌, map, Result, Ok, Err, ◌==◌, if◌then◌else◌}
use Rattle.std.specs.FinMap.{get, entries}
use Rattle.pf_shapes.specs.Scene.{Scene}
use Rattle.pf_commands.specs.Merge.{CommandMap, IsCommandMap}
use Rattle.pf_commands.specs.Ticks.{IsFrom}
use Rattle.pf_commands.specs.Name.{Name}
use Rattle.pf_commands.specs.declared.payload.Command.{Command}
use Rattle.pf_rollback.specs.declared.error.Refusal.{Refusal}
use Rattle.pf_rollback.specs.Core.{AreAllowed}
use Rattle.pf_rollback.specs.Peer.{Peer, issue, next_command, put}
use Rattle.pf_events.specs.declared.event.Event.{Event}
use Rattle.pf_events.specs.declared.event.Event.TheVariants.{Issue, Take, Merge, Advance, Settle, Show, Seal}
use Rattle.pf_events.specs.Session.{Session, merge_of, other_peer_at, peer_in, event_peer, session_after}

-- the commands of a call, unless the call is refused
abbrev pub if_taken : {A : Type 0} → Result A Refusal → List Command → List Command
if_taken (Ok answer) commands = commands
if_taken (Err refusal) commands = []

-- the commands of a map
abbrev pub listed_commands : CommandMap → List Command
listed_commands m = map (λ e. record { name = e.0; payload = e.1 }) (entries m)

-- the commands that an event brings to its peer
abbrev pub new_commands : Scene → Peer → Peer → Event → List Command
new_commands s q p (Issue peer payload) =
    if_taken (issue s p payload) (next_command p payload ∷ [])
new_commands s q p (Take peer (Ok c)) = if_taken (put s p c) (c ∷ [])
new_commands s q p (Take peer (Err fault)) = []
new_commands s q p (Merge peer other) =
    if other == peer then [] else if_taken (merge_of s p q) (listed_commands q.commands)
new_commands s q p (Advance peer ticks) = []
new_commands s q p (Settle peer) = []
new_commands s q p (Show peer tick) = []
new_commands s q p (Seal peer tick) = []

-- the commands that a list of events brings to the peer of a number
unfoldable pub commands_for : Session → ℕ → List Event → List Command
commands_for s i [] = []
commands_for s i (event ∷ events) =
    (if event_peer event == i
    then new_commands s.scene (other_peer_at s event) (peer_in s i) event else [])
    ++ commands_for (session_after s event) i events

-- two peers of one player have the same horizon and the same world there, hold the same commands
-- and have reached the same tick
pub record IsAlike (p q : Peer) : Type 0 where
  pub player : p.player ≡ q.player
  pub horizon : p.horizon ≡ q.horizon
  pub base : p.base ≡ q.base
  pub commands : (name : Name) → get p.commands name ≡ get q.commands name
  pub reached : p.reached ≡ q.reached

-- a peer's commands are in the ranges of their types, the scene allows each, and none is before the
-- horizon, as its type keeps
pub record IsAllowedPeer (s : Scene) (p : Peer) : Type 0 where
  pub from : IsFrom p.horizon p.commands
  pub ranges : IsCommandMap p.commands
  pub allowed : AreAllowed s p.commands
