-- Simulations that begin at a horizon, for peers that have sealed what came before it.
use Rattle.std.specs.Prelude.{ℕ, zero, suc, ◌+◌, ◌-◌}
use Rattle.pf_shapes.specs.Scene.{Scene}
use Rattle.pf_commands.specs.Merge.{CommandMap, payloads_at}
use Rattle.pf_step.specs.Step.{step}
use Rattle.pf_step.specs.World.{World}

-- the world so many ticks after a horizon, simulated by these commands from the world at the
-- horizon
unfoldable pub sim_from : Scene → World → ℕ → CommandMap → ℕ → World
sim_from s base horizon commands zero = base
sim_from s base horizon commands (suc ticks) =
    step s (sim_from s base horizon commands ticks) (payloads_at commands (horizon + ticks))

-- the world at a tick that is not before the horizon
abbrev pub sim_at : Scene → World → ℕ → CommandMap → ℕ → World
sim_at s base horizon commands tick = sim_from s base horizon commands (tick - horizon)
