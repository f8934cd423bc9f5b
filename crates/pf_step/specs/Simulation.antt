-- The simulation: a scene's world at each tick, by the commands of all ticks before it. No crate
-- above this one opens `step`; the laws of this crate do.
use Rattle.std.specs.Prelude.{ℕ, zero, suc}
use Rattle.pf_shapes.specs.Scene.{Scene}
use Rattle.pf_commands.specs.Merge.{CommandMap, payloads_at}
use Rattle.pf_step.specs.World.{World, start_world}
use Rattle.pf_step.specs.Step.{step}

-- the world of a scene at a tick, simulated from tick zero by these commands
unfoldable pub sim : Scene → CommandMap → ℕ → World
sim s commands zero = start_world s
sim s commands (suc tick) = step s (sim s commands tick) (payloads_at commands tick)
