-- Worlds of scenes without bodies.
use Rattle.std.proofs.Common.{◌≡◌, ℕ, zero, suc, List, [], ◌∷◌, Option, Some, None, length, refl, ap, ◌∙◌, slice_get, arith}
use Rattle.pf_shapes.specs.Fixture.{Fixture}
use Rattle.pf_shapes.specs.Body.{BodyState}
use Rattle.pf_shapes.specs.Scene.{Scene}
use Rattle.pf_commands.specs.Merge.{CommandMap, payloads_at}
use Rattle.pf_commands.specs.Payload.{body_of}
use Rattle.pf_commands.specs.declared.payload.Payload.{Payload}
use Rattle.pf_broad.specs.Pairs.{all_bounds, pairs}
use Rattle.pf_manifold.specs.Touches.{Touch, touches}
use Rattle.pf_cache.specs.Contact.{Contact, next_contacts}
use Rattle.pf_rows.specs.Row.{Row}
use Rattle.pf_cache.specs.ContactRows.{with_rows}
use Rattle.pf_islands.specs.Sleep.{bodies_after_sleep, woken_bodies}
use Rattle.pf_solver.specs.Solve.{solved_batch}
use Rattle.pf_solver.proofs.Solved.{solved_length}
use Rattle.pf_step.specs.Commands.{bodies_with_command, after_command, after_commands}
use Rattle.pf_step.specs.Simulation.{sim}
use Rattle.pf_step.specs.Step.{step, touches_of_scene}
use Rattle.pf_step.specs.World.{World, start_world}

abbrev no_bodies : List BodyState
no_bodies = []

get-none : (i : ℕ) → slice_get no_bodies i ≡ None
get-none zero = refl
get-none (suc i) = refl

stays : (p : Payload) (f : Option Fixture) → bodies_with_command [] p f None ≡ []
stays p None = refl
stays p (Some f) = refl

after_command-empty : (fixtures : List Fixture) (p : Payload) → after_command fixtures [] p ≡ []
unfolding after_command
after_command-empty fixtures p = rw (get-none (body_of p)) (stays p (slice_get fixtures (body_of p)))

after_commands-empty : (fixtures : List Fixture) (payloads : List Payload) →
    after_commands fixtures [] payloads ≡ []
unfolding after_commands
after_commands-empty fixtures [] = refl
after_commands-empty fixtures (p ∷ payloads) =
    rw (after_command-empty fixtures p) (after_commands-empty fixtures payloads)

-- a list without length has no elements
pub none_long : {X : Type 0} (xs : List X) → length xs ≡ 0 → xs ≡ []
none_long [] none = refl
none_long (x ∷ xs) none = absurd (omega (arith, none))

woken_bodies-empty : (labels : List ℕ) → woken_bodies labels [] ≡ []
unfolding woken_bodies
woken_bodies-empty [] = refl
woken_bodies-empty (name ∷ labels) = refl

bodies_after_sleep-empty : (full : ℕ) (labels : List ℕ) → bodies_after_sleep full labels [] ≡ []
unfolding bodies_after_sleep
bodies_after_sleep-empty full [] = refl
bodies_after_sleep-empty full (name ∷ labels) = refl

solved_batch-empty : (s : Scene) (bodies : List BodyState) (rows : List Row) → bodies ≡ [] → (solved_batch s bodies rows).bodies ≡ []
solved_batch-empty s bodies rows none = none_long (solved_batch s bodies rows).bodies (solved_length s bodies rows ∙ ap length none)

pub step_empty : (s : Scene) (w : World) (payloads : List Payload) → w.bodies ≡ [] → (step s w payloads).bodies ≡ []
unfolding step
step_empty s w payloads none =
    let commanded : after_commands s.fixtures w.bodies payloads ≡ [] =
    ap (λ bodies. after_commands s.fixtures bodies payloads) none ∙ after_commands-empty s.fixtures payloads in
    ap (bodies_after_sleep _ _) (solved_batch-empty s _ _ (ap (woken_bodies _) commanded ∙ woken_bodies-empty _)) ∙ bodies_after_sleep-empty _ _

-- a scene without bodies has worlds without bodies
pub sim_empty : (s : Scene) (m : CommandMap) (tick : ℕ) → s.starts ≡ [] → (sim s m tick).bodies ≡ []
unfolding sim start_world
sim_empty s m zero none = none
sim_empty s m (suc tick) none = step_empty s (sim s m tick) (payloads_at m tick) (sim_empty s m tick none)

-- ---- contacts

touches_of_scene-empty : (s : Scene) → touches_of_scene s [] ≡ []
touches_of_scene-empty s = by s.fixtures
  where
    by : (fixtures : List Fixture) → touches fixtures [] (pairs (all_bounds fixtures [])) ≡ []
    by [] = refl
    by (f ∷ fixtures) = refl

rows-empty : (contacts : List Contact) (points : List Touch) (rows : List Row) → points ≡ [] → with_rows (next_contacts contacts points) rows ≡ []
unfolding next_contacts with_rows
rows-empty contacts points rows none = rw none refl

pub step_no_contacts : (s : Scene) (w : World) (payloads : List Payload) → w.bodies ≡ [] → (step s w payloads).contacts ≡ []
unfolding step
step_no_contacts s w payloads none =
    let commanded : after_commands s.fixtures w.bodies payloads ≡ [] =
    ap (λ bodies. after_commands s.fixtures bodies payloads) none ∙ after_commands-empty s.fixtures payloads in
    rows-empty w.contacts _ _ (ap (touches_of_scene s) commanded ∙ touches_of_scene-empty s)

-- and without contacts
pub sim_no_contacts : (s : Scene) (m : CommandMap) (tick : ℕ) → s.starts ≡ [] → (sim s m tick).contacts ≡ []
unfolding sim start_world
sim_no_contacts s m zero none = refl
sim_no_contacts s m (suc tick) none = step_no_contacts s (sim s m tick) (payloads_at m tick) (sim_empty s m tick none)
