use Rattle.std.proofs.Common.{◌∙◌, ap}
use Rattle.pf_step.specs.Changes.{Changes, bodies_before}
use Rattle.pf_step.proofs.changes.Changes.note_bodies.Goals as goal

pub returns-clause-same : goal.returns-clause-same
returns-clause-same c =
    let bodies = c.args.bodies.now in
    c.note_all.ensures.same
    ∙ ap (λ cs. bodies_before cs bodies) c.make_room.ensures.same
    ∙ ap (λ (s : Changes). bodies_before s.bodies bodies) c.self.view_is
