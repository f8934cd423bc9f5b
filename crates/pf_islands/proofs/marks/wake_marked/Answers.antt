use Rattle.std.proofs.Common.{◌∙◌, ◌<◌, false, get_or, length, ap, arith}
use Rattle.pf_shapes.specs.Body.{BodyState}
use Rattle.pf_islands.specs.Marks.{marked_body}
use Rattle.pf_islands.proofs.Labelled.{body_is, changed_all, changed_more}
use Rattle.pf_islands.proofs.marks.wake_marked.Goals as goal

pub loop-number-preserved : goal.loop-number-preserved
loop-number-preserved c =
    let labels = c.args.labels.now in
    let bodies = c.args.bodies.now in
    let marks = c.args.marks.now in
    let i = c.loop-number.number in
    let d = c.index-bodies-number.result in
    let within : i < length bodies = omega arith in
    let is = c.body.view_is
    ∙ body_is (marked_body marks) labels bodies c.loop-number.bodies i c.requires.bodies c.loop-number.invariant within d in
    changed_more (marked_body marks) labels bodies c.loop-number.bodies i c.requires.bodies c.loop-number.invariant within d _
    (ap (λ (b : BodyState). record b { awake = get_or marks (get_or labels i 0) false }) is)

pub returns : goal.returns
returns c =
    changed_all (marked_body c.args.marks.now) c.args.labels.now c.args.bodies.now c.loop-number.bodies c.loop-number.number
    c.requires.bodies c.loop-number.invariant (omega arith)
