-- Simulations from a horizon: by the number of their ticks, by their commands, and from a later tick
-- on.
use Rattle.std.proofs.Common.{◌≡◌, ℕ, zero, suc, ◌+◌, ◌-◌, ◌<◌, ◌≤◌, [], length, refl, ap, ◌∙◌, arith}
use Rattle.pf_shapes.specs.Scene.{Scene}
use Rattle.pf_commands.specs.Merge.{CommandMap, payloads_at}
use Rattle.pf_commands.specs.Ticks.{commands_from}
use Rattle.pf_commands.proofs.Since.{payloads_at-from}
use Rattle.pf_step.specs.Simulation.{sim}
use Rattle.pf_step.specs.Step.{step}
use Rattle.pf_step.specs.World.{World, start_world}
use Rattle.pf_step.proofs.Empty.{step_empty, step_no_contacts}
use Rattle.pf_step.proofs.Lengths.{step_length}
use Rattle.pf_rollback.specs.Horizon.{sim_from, sim_at}

-- ---- by the number of ticks

-- at the horizon
pub sim_at_horizon : (s : Scene) (base : World) (horizon : ℕ) (m : CommandMap) (tick : ℕ) → tick ≡ horizon
    → sim_at s base horizon m tick ≡ base
unfolding sim_from
sim_at_horizon s base horizon m tick at = let none : tick - horizon ≡ 0 = omega arith in rw none refl

-- one tick more
pub sim_at_more : (s : Scene) (base : World) (horizon : ℕ) (m : CommandMap) (tick : ℕ) → horizon ≤ tick
    → sim_at s base horizon m (tick + 1) ≡ step s (sim_at s base horizon m tick) (payloads_at m tick)
unfolding sim_from
sim_at_more s base horizon m tick later =
    let next : tick + 1 - horizon ≡ suc (tick - horizon) = omega arith in
    let at : horizon + (tick - horizon) ≡ tick = omega arith in
    ap (sim_from s base horizon m) next
    ∙ ap (λ t. step s (sim_from s base horizon m (tick - horizon)) (payloads_at m t)) at

-- each world has one state for each body of the scene
sim_from_bodies : (s : Scene) (base : World) (horizon : ℕ) (m : CommandMap) (n : ℕ) → length base.bodies ≡ length s.fixtures
    → length (sim_from s base horizon m n).bodies ≡ length s.fixtures
unfolding sim_from
sim_from_bodies s base horizon m zero paired = paired
sim_from_bodies s base horizon m (suc n) paired =
    step_length s (sim_from s base horizon m n) (payloads_at m (horizon + n)) (sim_from_bodies s base horizon m n paired)

pub sim_at_bodies : (s : Scene) (base : World) (horizon : ℕ) (m : CommandMap) (tick : ℕ) → length base.bodies ≡ length s.fixtures
    → length (sim_at s base horizon m tick).bodies ≡ length s.fixtures
sim_at_bodies s base horizon m tick paired = sim_from_bodies s base horizon m (tick - horizon) paired

-- ---- without bodies

pub sim_from_empty : (s : Scene) (base : World) (horizon : ℕ) (m : CommandMap) (n : ℕ) → base.bodies ≡ []
    → (sim_from s base horizon m n).bodies ≡ []
unfolding sim_from
sim_from_empty s base horizon m zero none = none
sim_from_empty s base horizon m (suc n) none =
    step_empty s (sim_from s base horizon m n) (payloads_at m (horizon + n)) (sim_from_empty s base horizon m n none)

pub sim_from_no_contacts : (s : Scene) (base : World) (horizon : ℕ) (m : CommandMap) (n : ℕ) → base.bodies ≡ [] → base.contacts ≡ []
    → (sim_from s base horizon m n).contacts ≡ []
unfolding sim_from
sim_from_no_contacts s base horizon m zero none apart = apart
sim_from_no_contacts s base horizon m (suc n) none apart =
    step_no_contacts s (sim_from s base horizon m n) (payloads_at m (horizon + n)) (sim_from_empty s base horizon m n none)

-- ---- by commands

-- commands that have the same payloads at each tick from the horizon on make the same worlds
sim_from_same : (s : Scene) (base : World) (horizon : ℕ) (m k : CommandMap) (n : ℕ)
    → ((i : ℕ) → i < n → payloads_at m (horizon + i) ≡ payloads_at k (horizon + i))
    → sim_from s base horizon m n ≡ sim_from s base horizon k n
unfolding sim_from
sim_from_same s base horizon m k zero same = refl
sim_from_same s base horizon m k (suc n) same =
    ap (λ w. step s w (payloads_at m (horizon + n))) (sim_from_same s base horizon m k n (λ i below. same i (omega arith)))
    ∙ ap (step s (sim_from s base horizon k n)) (same n (omega arith))

pub sim_at_same : (s : Scene) (base : World) (horizon : ℕ) (m k : CommandMap) (tick : ℕ)
    → ((t : ℕ) → horizon ≤ t → t < tick → payloads_at m t ≡ payloads_at k t)
    → sim_at s base horizon m tick ≡ sim_at s base horizon k tick
sim_at_same s base horizon m k tick same =
    sim_from_same s base horizon m k (tick - horizon) (λ i below. same (horizon + i) (omega arith) (omega arith))

-- ---- from tick zero

-- a simulation goes on from a world of another one
sim_continued : (s : Scene) (base : World) (horizon : ℕ) (m k : CommandMap) (n : ℕ) → base ≡ sim s k horizon
    → ((i : ℕ) → i < n → payloads_at m (horizon + i) ≡ payloads_at k (horizon + i))
    → sim_from s base horizon m n ≡ sim s k (horizon + n)
unfolding sim_from sim
sim_continued s base horizon m k zero is same = let all : horizon ≡ horizon + 0 = omega arith in is ∙ ap (sim s k) all
sim_continued s base horizon m k (suc n) is same =
    let next : suc (horizon + n) ≡ horizon + suc n = omega arith in
    ap (λ w. step s w (payloads_at m (horizon + n))) (sim_continued s base horizon m k n is (λ i below. same i (omega arith)))
    ∙ ap (step s (sim s k (horizon + n))) (same n (omega arith)) ∙ ap (sim s k) next

-- so a simulation from a horizon is one from tick zero, by commands that make its base and have the
-- same payloads from there on
pub sim_at_continued : (s : Scene) (base : World) (horizon : ℕ) (m k : CommandMap) (tick : ℕ) → horizon ≤ tick → base ≡ sim s k horizon
    → ((t : ℕ) → horizon ≤ t → payloads_at m t ≡ payloads_at k t)
    → sim_at s base horizon m tick ≡ sim s k tick
sim_at_continued s base horizon m k tick later is same =
    let all : horizon + (tick - horizon) ≡ tick = omega arith in
    sim_continued s base horizon m k (tick - horizon) is (λ i below. same (horizon + i) (omega arith)) ∙ ap (sim s k) all

pub sim_at_start : (s : Scene) (m : CommandMap) (tick : ℕ) → sim_at s (start_world s) 0 m tick ≡ sim s m tick
unfolding sim
sim_at_start s m tick = sim_at_continued s (start_world s) 0 m m tick (omega arith) refl (λ t later. refl)

-- ---- from a later tick

sim_from_split : (s : Scene) (base : World) (horizon : ℕ) (m : CommandMap) (first n : ℕ)
    → sim_from s (sim_from s base horizon m first) (horizon + first) m n ≡ sim_from s base horizon m (first + n)
unfolding sim_from
sim_from_split s base horizon m first zero = let all : first ≡ first + 0 = omega arith in ap (sim_from s base horizon m) all
sim_from_split s base horizon m first (suc n) =
    let at : horizon + first + n ≡ horizon + (first + n) = omega arith in
    let next : suc (first + n) ≡ first + suc n = omega arith in
    ap (λ w. step s w (payloads_at m (horizon + first + n))) (sim_from_split s base horizon m first n)
    ∙ ap (λ t. step s (sim_from s base horizon m (first + n)) (payloads_at m t)) at
    ∙ ap (sim_from s base horizon m) next

-- a world as the horizon's stands for the commands before it
pub sim_at_sealed : (s : Scene) (base : World) (horizon : ℕ) (m : CommandMap) (sealed tick : ℕ) → horizon ≤ sealed → sealed ≤ tick
    → sim_at s (sim_at s base horizon m sealed) sealed (commands_from sealed m) tick ≡ sim_at s base horizon m tick
sim_at_sealed s base horizon m sealed tick after later =
    let from : sealed ≡ horizon + (sealed - horizon) = omega arith in
    let all : sealed - horizon + (tick - sealed) ≡ tick - horizon = omega arith in
    let world = sim_at s base horizon m sealed in
    sim_at_same s world sealed (commands_from sealed m) m tick (λ t high below. payloads_at-from sealed m t high)
    ∙ ap (λ h. sim_from s world h m (tick - sealed)) from
    ∙ sim_from_split s base horizon m (sealed - horizon) (tick - sealed)
    ∙ ap (sim_from s base horizon m) all
