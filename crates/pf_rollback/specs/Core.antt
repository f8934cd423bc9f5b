-- Peer cores: a peer, and the worlds that are kept for it.
use Rattle.std.specs.Prelude.{◌≡◌, ℕ, zero, suc, ◌+◌, ◌-◌, ◌<◌, ◌≤◌, length, Option, Some, None, IfSome, if◌then◌else◌}
use Rattle.std.specs.FinMap.{get}
use Rattle.pf_shapes.specs.Scene.{Scene}
use Rattle.pf_commands.specs.declared.payload.Command.{Command}
use Rattle.pf_commands.specs.declared.payload.Payload.{Payload}
use Rattle.pf_commands.specs.Check.{IsAllowed}
use Rattle.pf_commands.specs.Merge.{CommandMap}
use Rattle.pf_commands.specs.Name.{Name}
use Rattle.pf_commands.specs.News.{is_news}
use Rattle.pf_step.specs.Meter.{Meter, saturating_sum}
use Rattle.pf_step.specs.Work.{no_work}
use Rattle.pf_step.specs.World.{World, start_world}
use Rattle.pf_rollback.specs.declared.snapshots.TheConstants.{KEYFRAME_INTERVAL}
use Rattle.pf_rollback.specs.Kept.{Ticks, no_ticks, settled_tick, ticks_after_news, ticks_after_more}
use Rattle.pf_rollback.specs.Peer.{Peer, IsPeer, new_peer, world_of}
use Rattle.pf_rollback.specs.Snapshots.{Snapshots, IsKept, ticks_of}

-- the scene that a peer plays, the peer, the ticks of its kept worlds, and the work that was done
pub record PeerCore : Type 0 where
  pub scene : Scene
  pub peer : Peer
  pub kept : Ticks
  pub meter : Meter

-- at first only the start world is kept, and nothing is counted
abbrev pub new_core : Scene → ℕ → ℕ → PeerCore
new_core scene player ring = record {
  scene = scene;
  peer = new_peer scene player;
  kept = no_ticks ring;
  meter = no_work.meter;
}

-- ---- what the type of peer cores keeps

-- the peer of these commands: its horizon, and the world there, stand among the kept worlds
abbrev pub peer_of : ℕ → CommandMap → ℕ → Snapshots → Peer
peer_of player commands reached kept = record {
  player = player;
  horizon = kept.horizon;
  base = kept.base;
  commands = commands;
  reached = reached;
}

-- the scene allows each command of a map
abbrev pub AreAllowed : Scene → CommandMap → Type 0
AreAllowed scene commands =
    (name : Name) (payload : Payload) → get commands name ≡ Some payload
    → IsAllowed scene (name, payload)

-- each kept world is the simulation, from the horizon on, of the commands that the peer holds; the
-- scene allows these; and no tick above the reached one is settled. A peer that has sealed nothing
-- simulates from the start world.
pub record IsPeerCore (scene : Scene) (p : Peer) (kept : Snapshots) : Type 0 where
  pub peer : IsPeer p
  pub bodies : length p.base.bodies ≡ length scene.fixtures
  pub start : p.horizon ≡ 0 → p.base ≡ start_world scene
  pub allowed : AreAllowed scene p.commands
  pub worlds : (tick : ℕ) (world : World) → IsKept kept tick world
      → world ≡ world_of scene p tick
  pub settled : settled_tick (ticks_of kept) ≤ p.reached

-- ---- news

-- the tick of a command that is new or greater to a map
abbrev pub news_tick : CommandMap → Command → Option ℕ
news_tick m c = if is_news m (c.name, c.payload) then Some c.name.tick else None

-- after news of this least tick, if there are any, each kept world after it is dropped, and no
-- other; the settled tick falls by less than a keyframe's interval below it
pub record KeepsBefore (least : Option ℕ) (old new : Ticks) : Type 0 where
  pub kept : new ≡ ticks_after_news least old
  pub near : IfSome least
      (λ tick. tick ≤ settled_tick old → tick < settled_tick new + KEYFRAME_INTERVAL)

-- ---- settling

-- how many ticks a settle has to simulate
abbrev pub missing_count : PeerCore → ℕ
missing_count core = core.peer.reached - settled_tick core.kept

-- a count of ticks after so many more, each of which is counted up to 2^64 - 1
unfoldable pub count_after : ℕ → ℕ → ℕ
count_after count zero = count
count_after count (suc more) = saturating_sum (count_after count more) 1

-- so many more ticks are settled, and each is counted once; nothing else of the peer changed but
-- the count of pairs
pub record HasSettled (more : ℕ) (old new : PeerCore) : Type 0 where
  pub kept : new.kept ≡ ticks_after_more old.kept more
  pub ticks : new.meter.ticks ≡ count_after old.meter.ticks more
  pub rest : new ≡ record old { kept = new.kept; meter = new.meter }
