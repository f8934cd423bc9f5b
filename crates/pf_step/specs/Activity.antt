-- A tick after its phase Activity, before anything is solved: its groups, its contacts, and its
-- islands, as Box2D 2.x's b2World::Solve finds them.
use Rattle.std.specs.Prelude.{ℕ, List}
use Rattle.pf_shapes.specs.Body.{BodyState}
use Rattle.pf_shapes.specs.Scene.{Scene}
use Rattle.pf_commands.specs.declared.payload.Payload.{Payload}
use Rattle.pf_cache.specs.Contact.{Contact, next_contacts}
use Rattle.pf_islands.specs.Group.{groups}
use Rattle.pf_islands.specs.Rows.{active_rows}
use Rattle.pf_islands.specs.Sleep.{woken_bodies}
use Rattle.pf_islands.specs.Split.{Island}
use Rattle.pf_islands.specs.Splitting.{woken_islands}
use Rattle.pf_solver.specs.Velocities.{Batch}
use Rattle.pf_step.specs.Commands.{after_commands}
use Rattle.pf_step.specs.Step.{touches_of_scene}
use Rattle.pf_step.specs.World.{World}

-- the labels of the groups of bodies as they stand
abbrev pub labels_of_bodies : Scene → List BodyState → List ℕ
labels_of_bodies s bodies = groups s (touches_of_scene s bodies)

-- their contacts, with what those of the last tick accumulated
abbrev pub contacts_of_bodies : Scene → List Contact → List BodyState → List Contact
contacts_of_bodies s contacts bodies = next_contacts contacts (touches_of_scene s bodies)

-- the bodies and contacts that are solved, in one list each, with these contacts of the tick
abbrev pub batch_with : Scene → List Contact → List BodyState → Batch
batch_with s contacts bodies =
    let points = touches_of_scene s bodies in
    let awake = woken_bodies (groups s points) bodies in
    record { bodies = awake; rows = active_rows s awake points contacts }

-- the islands that are solved, with these contacts of the tick
abbrev pub islands_with : Scene → List Contact → List BodyState → List Island
islands_with s contacts bodies = woken_islands s bodies (touches_of_scene s bodies) contacts

-- the bodies and contacts that are solved, where these are the contacts of the last tick
abbrev pub batch_of_bodies : Scene → List Contact → List BodyState → Batch
batch_of_bodies s contacts bodies =
    batch_with s (contacts_of_bodies s contacts bodies) bodies

-- the islands that are solved, where these are the contacts of the last tick
abbrev pub islands_of_bodies : Scene → List Contact → List BodyState → List Island
islands_of_bodies s contacts bodies =
    islands_with s (contacts_of_bodies s contacts bodies) bodies

-- the same of the bodies of a tick, after its commands: the labels of the groups
abbrev pub labels_of_tick : Scene → World → List Payload → List ℕ
labels_of_tick s w payloads = labels_of_bodies s (after_commands s.fixtures w.bodies payloads)

-- the bodies and contacts that are solved in a tick
abbrev pub batch_of_tick : Scene → World → List Payload → Batch
batch_of_tick s w payloads =
    batch_of_bodies s w.contacts (after_commands s.fixtures w.bodies payloads)

-- the islands that are solved in a tick
abbrev pub islands_of_tick : Scene → World → List Payload → List Island
islands_of_tick s w payloads =
    islands_of_bodies s w.contacts (after_commands s.fixtures w.bodies payloads)
