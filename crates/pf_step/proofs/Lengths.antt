-- How long the lists of a tick are.
use Rattle.std.proofs.Common.{◌≡◌, ℕ, zero, suc, List, length, sym, ◌∙◌}
use Rattle.std.proofs.lemmas.List.{length-map}
use Rattle.std.specs.List.{zip}
use Rattle.pf_shapes.specs.Body.{BodyState}
use Rattle.pf_shapes.specs.Scene.{IsScene, Scene}
use Rattle.pf_manifold.specs.Touches.{Touch}
use Rattle.pf_commands.specs.declared.payload.Payload.{Payload}
use Rattle.pf_commands.specs.Merge.{CommandMap, payloads_at}
use Rattle.pf_cache.specs.Contact.{Contact, next_contacts}
use Rattle.pf_islands.specs.Group.{groups}
use Rattle.pf_islands.specs.Sleep.{bodies_after_sleep, woken_bodies}
use Rattle.pf_islands.proofs.Starting.{groups_long}
use Rattle.pf_solver.specs.declared.bodies.TheConstants.{STILL_TICKS}
use Rattle.pf_solver.specs.Solve.{solved_batch}
use Rattle.pf_solver.proofs.Solved.{solved_length}
use Rattle.pf_step.specs.Commands.{after_commands}
use Rattle.pf_islands.specs.Rows.{active_rows}
use Rattle.pf_step.specs.Simulation.{sim}
use Rattle.pf_step.specs.Step.{step, touches_of_scene, world_after}
use Rattle.pf_step.specs.World.{World, start_world}
use Rattle.pf_step.proofs.Commanding.{commands_length}
use Rattle.pf_islands.proofs.Elements.{zip_length}

pub woken_length : (labels : List ℕ) (bodies : List BodyState) → length labels ≡ length bodies
    → length (woken_bodies labels bodies) ≡ length bodies
unfolding woken_bodies
woken_length labels bodies same = length-map (zip labels bodies) _ ∙ zip_length labels bodies same

pub rested_length : (full : ℕ) (labels : List ℕ) (bodies : List BodyState) → length labels ≡ length bodies
    → length (bodies_after_sleep full labels bodies) ≡ length bodies
unfolding bodies_after_sleep
rested_length full labels bodies same = length-map (zip labels bodies) _ ∙ zip_length labels bodies same

-- each body has a label
pub named : (s : Scene) (points : List Touch) (bodies : List BodyState) → length bodies ≡ length s.fixtures
    → length (groups s points) ≡ length bodies
named s points bodies paired = groups_long s points ∙ sym paired

-- each contact point has a contact
pub updated_length : (old : List Contact) (points : List Touch) → length (next_contacts old points) ≡ length points
unfolding next_contacts
updated_length old points = length-map points _

-- a world has one state for each body of the scene
pub world_after_length : (s : Scene) (before : List Contact) (bodies : List BodyState) → length bodies ≡ length s.fixtures
    → length (world_after s before bodies).bodies ≡ length s.fixtures
world_after_length s before bodies paired =
    let points = touches_of_scene s bodies in
    let labels = groups s points in
    let awake = woken_bodies labels bodies in
    let rows = active_rows s awake points (next_contacts before points) in
    let woke : length awake ≡ length bodies = woken_length labels bodies (named s points bodies paired) in
    let moved : length (solved_batch s awake rows).bodies ≡ length s.fixtures = solved_length s awake rows ∙ woke ∙ paired in
    rested_length STILL_TICKS labels (solved_batch s awake rows).bodies (named s points (solved_batch s awake rows).bodies moved) ∙ moved

pub step_length : (s : Scene) (w : World) (payloads : List Payload) → length w.bodies ≡ length s.fixtures
    → length (step s w payloads).bodies ≡ length s.fixtures
unfolding step
step_length s w payloads paired =
    world_after_length s w.contacts (after_commands s.fixtures w.bodies payloads)
    (commands_length s.fixtures w.bodies payloads ∙ paired)

pub sim_length : (s : Scene) (m : CommandMap) (tick : ℕ) → IsScene s → length (sim s m tick).bodies ≡ length s.fixtures
unfolding sim start_world
sim_length s m zero scene = scene.paired
sim_length s m (suc tick) scene = step_length s (sim s m tick) (payloads_at m tick) (sim_length s m tick scene)
