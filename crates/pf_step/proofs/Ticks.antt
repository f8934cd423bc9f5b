-- Simulations by the number of their ticks.
use Rattle.std.proofs.Common.{◌≡◌, ℕ, zero, suc, ◌<◌, refl, ap, ◌∙◌, arith}
use Rattle.pf_shapes.specs.Scene.{Scene}
use Rattle.pf_commands.specs.Merge.{CommandMap, payloads_at}
use Rattle.pf_step.specs.Simulation.{sim}
use Rattle.pf_step.specs.Step.{step}

-- commands that have the same payloads at each tick below n make the same world at n
pub sim_same : (s : Scene) (m k : CommandMap) (n : ℕ)
    → ((tick : ℕ) → tick < n → payloads_at m tick ≡ payloads_at k tick) → sim s m n ≡ sim s k n
unfolding sim
sim_same s m k zero same = refl
sim_same s m k (suc n) same =
    ap (λ world. step s world (payloads_at m n)) (sim_same s m k n (λ tick below. same tick (omega arith)))
    ∙ ap (step s (sim s k n)) (same n (omega arith))
