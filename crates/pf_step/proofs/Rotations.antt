-- No rotation of a world has a part above 1, where none of its start has one.
use Rattle.std.proofs.Common.{◌≡◌, ℕ, zero, suc, Some, subst, sym, slice_get}
use Rattle.std.specs.Prelude.{All}
use Rattle.pf_rot.specs.Laws.{IsAtMostOne}
use Rattle.pf_shapes.specs.Body.{BodyState}
use Rattle.pf_shapes.specs.Scene.{Scene}
use Rattle.pf_commands.specs.Merge.{CommandMap, payloads_at}
use Rattle.pf_step.specs.Simulation.{sim}
use Rattle.pf_step.specs.World.{start_world}
use Rattle.pf_step.proofs.Commanding.{Commanded, commands_case, same, woken}
use Rattle.pf_islands.proofs.Elements.{all_at, all_from}
use Rattle.pf_step.proofs.TickCases.{ticked_body}

abbrev HasRotation : BodyState → Type 0
HasRotation b = IsAtMostOne b.rotation

commanded_keeps : (b c : BodyState) → Commanded b c → HasRotation b → HasRotation c
commanded_keeps b c (same is) h = subst HasRotation (sym is) h
commanded_keeps b c (woken timer awake rotation) h = subst IsAtMostOne (sym rotation) h

-- at each tick
rotation_at : (s : Scene) (m : CommandMap) (tick i : ℕ) (b : BodyState) → All HasRotation s.starts
    → slice_get (sim s m tick).bodies i ≡ Some b → HasRotation b
unfolding sim start_world
rotation_at s m zero i b h here = all_at HasRotation s.starts i b h here
rotation_at s m (suc tick) i b h here =
    let last = ticked_body s (sim s m tick) (payloads_at m tick) i b here in
    let first = commands_case s.fixtures (sim s m tick).bodies (payloads_at m tick) i last.from last.is_there in
    last.rotation (commanded_keeps first.from last.from first.value (rotation_at s m tick i first.from h first.is_there))

pub sim_keeps : (s : Scene) (commands : CommandMap) (tick : ℕ)
    → All HasRotation s.starts → All HasRotation (sim s commands tick).bodies
sim_keeps s m tick h = all_from HasRotation (sim s m tick).bodies (λ i b here. rotation_at s m tick i b h here)
