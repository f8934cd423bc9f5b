use Rattle.std.proofs.Common.{◌≡◌, ◌++◌, ◌∷◌, [], ap, length, rules, subst, sym, arith}
use Rattle.std.proofs.lemmas.List.{length-append}
use Rattle.std.specs.Arc.{arc_value}
use Rattle.std.specs.Prelude.{All}
use Rattle.pf_shapes.specs.Pair.{IsPairOf}
use Rattle.pf_workers.specs.Colliding.{chunk}
use Rattle.pf_workers.proofs.Chunks.{all_drop, cut, last, part}
use Rattle.pf_workers.proofs.colliding.chunks_of.Goals as goal

pub loop-made-preserved : goal.loop-made-preserved
loop-made-preserved c =
    let fixtures = (arc_value c.args.scene.now).fixtures in
    let bodies = (arc_value c.args.bodies.now).items in
    let own = c.split_at.result.0.now in
    let before = c.loop-made.parts.items in
    let pushed : c.push.new.self.items ≡ before ++ part (chunk fixtures bodies own) ∷ [] = search rules in
    let back = c.split_at.ensures.back in record {
      count = omega (arith, ap length pushed, length-append before (part (chunk fixtures bodies own) ∷ []), c.loop-made.invariant.count);
      pairs = subst (All (IsPairOf (length bodies))) (sym back) (all_drop (IsPairOf (length bodies)) c.loop-made.rest.now _ c.loop-made.invariant.pairs);
      points = cut fixtures bodies before c.push.new.self.items own c.split_at.result.1.now c.loop-made.rest.now c.args.pairs.now _
          c.split_at.ensures.front back pushed c.loop-made.invariant.points;
    }

pub returns-clause-points : goal.returns-clause-points
returns-clause-points c =
    last (arc_value c.args.scene.now).fixtures (arc_value c.args.bodies.now).items c.loop-made.parts.items _ c.loop-made.rest.now
    c.args.pairs.now (search rules) c.loop-made.invariant.points
