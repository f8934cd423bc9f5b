-- What a worker of a crew makes of its islands.
use Rattle.std.specs.Prelude.{◌≡◌, Bool, false, List, map, Result, Ok, Err}
use Rattle.pf_shapes.specs.Scene.{Scene}
use Rattle.pf_islands.specs.Split.{Island}
use Rattle.pf_solver.specs.Alone.{island_after_tick}
use Rattle.pf_step.specs.declared.crew.CrewError.{CrewError}
use Rattle.pf_step.specs.declared.crew.CrewError.TheVariants.{GateShut}

-- the scene of a solve, and the islands of one worker
pub record Share : Type 0 where
  pub scene : Scene
  pub islands : List Island

abbrev pub share_of : Scene → List Island → Share
share_of s stack = record { scene = s; islands = stack }

-- what a worker returns of its own islands: each after a tick, or that its gate was shut
abbrev pub IsSolved : Bool → Scene → List Island → Result (List Island) CrewError → Type 0
IsSolved always s stack (Ok after) = after ≡ map (island_after_tick s) stack
IsSolved always s stack (Err error) = (error ≡ GateShut) × (always ≡ false)
