-- A tick of an island, as Box2D 2.x's b2Island::Solve, and a tick of a body that no contact
-- touches.
use Rattle.std.specs.Prelude.{ℕ, ◌==◌, ◌&&◌, List, map, if◌then◌else◌}
use Rattle.std.specs.List.{enumerate_from}
use Rattle.pf_rot.specs.Vector.{V2}
use Rattle.pf_shapes.specs.Body.{BodyState}
use Rattle.pf_shapes.specs.Scene.{Scene}
use Rattle.pf_islands.specs.Island.{has_number, rows_among, states_of}
use Rattle.pf_islands.specs.Sleep.{at_sleep, island_after_sleep}
use Rattle.pf_islands.specs.Split.{Island}
use Rattle.pf_solver.specs.declared.bodies.TheConstants.{STILL_TICKS}
use Rattle.pf_solver.specs.Beside.{velocities_of}
use Rattle.pf_solver.specs.Bodies.{after_gravity, after_motion, after_timer, each_awake}
use Rattle.pf_solver.specs.Solve.{prepared_batch, solved_batch}
use Rattle.pf_solver.specs.Velocities.{Batch}

-- an island after a tick of its own: its bodies are solved with no other contacts than its own, and
-- all of them go to sleep if every timer is full
abbrev pub island_after_tick : Scene → Island → Island
island_after_tick s i =
    let after = solved_batch s i.bodies i.rows in
    record i { bodies = island_after_sleep STILL_TICKS after.bodies; rows = after.rows }

-- the bodies and the rows of an island
abbrev pub batch_in : Island → Batch
batch_in i = record { bodies = i.bodies; rows = i.rows }

-- the island with the bodies and the rows of a batch
abbrev pub island_with : Batch → Island → Island
island_with b i = record i { bodies = b.bodies; rows = b.rows }

-- an island before the rounds of its tick: after gravity and the pre-step
abbrev pub prepared_island : Scene → Island → Island
prepared_island s i = island_with (prepared_batch s i.bodies i.rows) i

-- an island after its rounds
abbrev pub island_after_rounds : Island → Island
island_after_rounds i = island_with (velocities_of (batch_in i)) i

-- an island at the end of its tick: the phases Positions, Timers and Sleep
unfoldable pub island_at_end : Island → Island
island_at_end i = record i {
  bodies = island_after_sleep STILL_TICKS (each_awake (λ b. after_timer (after_motion b)) i.bodies);
}

-- the part of a batch that belongs to the island of these bodies
abbrev pub seen_from : List ℕ → Batch → Batch
seen_from numbers b = record {
  bodies = states_of numbers b.bodies;
  rows = rows_among numbers b.rows;
}

-- the phases Gravity to Timers of a body that no contact touches
abbrev pub lone_body_after_timers : V2 → BodyState → BodyState
lone_body_after_timers pull b =
    if b.awake then after_timer (after_motion (after_gravity pull b)) else b

-- the phase Sleep of a body that is a group of its own
abbrev pub lone_body_after_sleep : BodyState → BodyState
lone_body_after_sleep b = if b.awake && (b.timer == STILL_TICKS) then at_sleep b else b

-- a body that no contact touches, after a tick; `pull` is what gravity adds to a velocity in a tick
unfoldable pub lone_body_after_tick : V2 → BodyState → BodyState
lone_body_after_tick pull b = lone_body_after_sleep (lone_body_after_timers pull b)

-- the bodies after a tick of those with these numbers, which no contact touches; the others stay
abbrev pub lone_bodies_after_tick : V2 → List ℕ → List BodyState → List BodyState
lone_bodies_after_tick pull numbers bodies =
    map (λ m. if has_number numbers m.0 then lone_body_after_tick pull m.1 else m.1)
    (enumerate_from 0 bodies)
