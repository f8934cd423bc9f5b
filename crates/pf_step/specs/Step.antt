-- The tick on one screen: from the world at a tick to the world one tick later, as Box2D-Lite's
-- World::Step, with the groups and the sleep of Box2D 2.x.
use Rattle.std.specs.Prelude.{List}
use Rattle.pf_shapes.specs.Fixture.{Fixture}
use Rattle.pf_shapes.specs.Body.{BodyState}
use Rattle.pf_shapes.specs.Scene.{Scene}
use Rattle.pf_broad.specs.Pairs.{all_bounds, pairs}
use Rattle.pf_manifold.specs.Touches.{Touch, touches}
use Rattle.pf_commands.specs.declared.payload.Payload.{Payload}
use Rattle.pf_cache.specs.Contact.{Contact, next_contacts}
use Rattle.pf_cache.specs.Manifolds.{Manifolds, Collisions, computed_count, manifolds_of, placed_shapes}
use Rattle.pf_cache.specs.ContactRows.{with_rows}
use Rattle.pf_islands.specs.Group.{groups}
use Rattle.pf_islands.specs.Sleep.{bodies_after_sleep, woken_bodies}
use Rattle.pf_solver.specs.declared.bodies.TheConstants.{STILL_TICKS}
use Rattle.pf_solver.specs.Solve.{solved_batch}
use Rattle.pf_step.specs.Commands.{after_commands}
use Rattle.pf_islands.specs.Rows.{active_rows}
use Rattle.pf_step.specs.World.{World}

-- the contact points of all pairs of bodies whose bounds overlap
abbrev pub touches_of_scene : Scene → List BodyState → List Touch
touches_of_scene s bodies = touches s.fixtures bodies (pairs (all_bounds s.fixtures bodies))

-- the result of the narrow phase for these bodies, with these points kept
abbrev pub collisions_of_bodies : List Fixture → List BodyState → Manifolds → Collisions
collisions_of_bodies fixtures bodies kept =
    let found = pairs (all_bounds fixtures bodies) in
    record {
      manifolds = manifolds_of fixtures bodies found;
      computed = computed_count kept (placed_shapes fixtures bodies) found;
    }

-- the result of the narrow phase in a tick, with these points kept
abbrev pub collisions_of_tick : Scene → World → List Payload → Manifolds → Collisions
collisions_of_tick s w payloads kept =
    collisions_of_bodies s.fixtures (after_commands s.fixtures w.bodies payloads) kept

-- Points, Activity, then Gravity, Pre-step, Rounds, Positions and Timers, and Sleep: the world
-- after these phases, of bodies after the commands of a tick and of the contacts of the last tick
abbrev pub world_after : Scene → List Contact → List BodyState → World
world_after s before bodies =
    let points = touches_of_scene s bodies in
    let contacts = next_contacts before points in
    let labels = groups s points in
    let awake = woken_bodies labels bodies in
    let after = solved_batch s awake (active_rows s awake points contacts) in
    record {
      bodies = bodies_after_sleep STILL_TICKS labels after.bodies;
      contacts = with_rows contacts after.rows;
    }

-- the world one tick later, with the payloads of the tick's commands in order of player, then
-- number
unfoldable pub step : Scene → World → List Payload → World
step s w payloads = world_after s w.contacts (after_commands s.fixtures w.bodies payloads)
