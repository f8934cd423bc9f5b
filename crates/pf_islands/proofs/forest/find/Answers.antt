use Rattle.std.proofs.Common.{◌<◌, length, arith, ◌∙◌}
use Rattle.pf_islands.proofs.Roots.{above_low, parent_low, downward_halved, forest_halved, same_above}
use Rattle.pf_islands.proofs.forest.find.Goals as goal

pub loop-parents-preserved : goal.loop-parents-preserved
loop-parents-preserved c =
    let parents = c.loop-parents.parents in
    let place = c.loop-parents.place in
    let down = c.loop-parents.invariant.down in
    let within : place < length parents = omega arith in
    let low = parent_low parents place within down in
    let lower = above_low parents place within down in
    record {
      within = omega (arith, low, lower, c.loop-parents.invariant.within);
      down = downward_halved parents place within down;
      kept = λ root start. forest_halved parents place within down root (c.loop-parents.invariant.kept root start);
      same = λ root start.
          same_above parents place within down root (c.loop-parents.invariant.kept root start)
          ∙ c.loop-parents.invariant.same root start;
    }
