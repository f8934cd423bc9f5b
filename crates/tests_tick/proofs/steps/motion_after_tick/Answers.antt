use Rattle.std.proofs.Common.{◌-◌, ◌<◌, ap, arith, subst, sym, vec_len}
use Rattle.std.specs.Prelude.{unwrap_or}
use Rattle.pf_islands.specs.Split.{Island, IsIslandOf}
use Rattle.tests_tick.proofs.steps.motion_after_tick.Goals as goal

pub solve-requires : goal.solve-requires
solve-requires c =
    let island : Island = c.in-Some.island in
    let some : 0 < vec_len c.in_ok-parts.parts.islands = omega (arith, c.in-Some.ensures.cases) in
    let is = c.in-Some.ensures.value island some in
    subst (IsIslandOf c.args.scene.now) (sym (ap (λ o. unwrap_or o island) is))
    (c.in_ok-parts.ensures.parts.fit (vec_len c.in_ok-parts.parts.islands - 1) island (omega (arith, some)))
