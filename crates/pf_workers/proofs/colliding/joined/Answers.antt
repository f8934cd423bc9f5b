use Rattle.std.proofs.Common.{◌≡◌, ◌∙◌, ◌++◌, Ok, Some, ap, arith, get_or, rules, subst}
use Rattle.std.proofs.lemmas.List.{take_all}
use Rattle.std.specs.List.{flat_map}
use Rattle.pf_pool.specs.Pool.{AreDone}
use Rattle.pf_workers.specs.Colliding.{chunk_points}
use Rattle.pf_workers.specs.Work.{IsDone}
use Rattle.pf_workers.specs.declared.work.Part.TheVariants.{Found}
use Rattle.pf_workers.proofs.Chunks.{count, joined_more}
use Rattle.pf_workers.proofs.colliding.joined.Goals as goal

pub loop-number-preserved : goal.loop-number-preserved
loop-number-preserved g c chunks of =
    let items : c.extend_from_slice.new.self.items ≡ c.loop-number.all.items ++ c.in-Some-Found-Ok.points.items = search rules in
    let at : get_or c.args.found.now c.loop-number.number c.index-found-number.result ≡ Some (Found (Ok c.in-Some-Found-Ok.points)) = search rules in
    items
    ∙ joined_more g.G.Gate.ALWAYS chunks c.args.found.now of c.loop-number.number c.loop-number.all.items c.in-Some-Found-Ok.points
    c.index-found-number.result c.loop-number-test.true at (c.loop-number.invariant chunks of)

pub returns : goal.returns
returns g c parts points cut outcomes =
    let always = g.G.Gate.ALWAYS in
    let chunks = cut.0 in
    let of = subst (λ l. AreDone (IsDone always) l c.args.found.now) cut.1 outcomes in
    c.loop-number.invariant chunks of
    ∙ ap (flat_map chunk_points)
    (take_all c.loop-number.number chunks (omega (arith, c.loop-number-test.false, count always chunks c.args.found.now of)))
    ∙ cut.2
