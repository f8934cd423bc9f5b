-- What sealing keeps: a peer that has sealed commands shows what one that holds them all would
-- show.
use Rattle.std.specs.Prelude.{◌≡◌, ◌<◌, Some}
use Rattle.std.specs.FinMap.{get}
use Rattle.pf_shapes.specs.Scene.{Scene}
use Rattle.pf_commands.specs.declared.payload.Payload.{Payload}
use Rattle.pf_commands.specs.Merge.{CommandMap}
use Rattle.pf_commands.specs.Name.{Name}
use Rattle.pf_commands.specs.Ticks.{IsFrom}
use Rattle.pf_step.specs.Simulation.{sim}
use Rattle.pf_rollback.specs.Peer.{Peer}

-- These commands account for what a peer has sealed: its world at the horizon is their simulation
-- from tick zero. They are for ticks before the horizon, and what the peer holds is for the horizon
-- or later.
pub record HasSealed (s : Scene) (sealed : CommandMap) (p : Peer) : Type 0 where
  pub base : p.base ≡ sim s sealed p.horizon
  pub before : (name : Name) (payload : Payload)
      → get sealed name ≡ Some payload → name.tick < p.horizon
  pub from : IsFrom p.horizon p.commands
