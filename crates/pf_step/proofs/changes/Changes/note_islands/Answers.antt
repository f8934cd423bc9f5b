use Rattle.std.proofs.Common.{◌∙◌, ap, take}
use Rattle.pf_step.specs.Changes.{Changes, bodies_before}
use Rattle.pf_step.proofs.Changing.{island_notes_undo_nothing}
use Rattle.pf_step.proofs.changes.Changes.note_islands.Goals as goal

pub returns-in_err-note_all-clause-same : goal.returns-in_err-note_all-clause-same
returns-in_err-note_all-clause-same c =
    let bodies = c.args.bodies.now in
    c.in_err-note_all.ensures.same
    ∙ ap (λ cs. bodies_before cs bodies) c.loop-island.invariant.noted
    ∙ island_notes_undo_nothing c.make_room.new.changes.items bodies (take c.loop-island.island-index c.args.islands.now)
    ∙ ap (λ cs. bodies_before cs bodies) c.make_room.ensures.same
    ∙ ap (λ (s : Changes). bodies_before s.bodies bodies) c.self.view_is

pub returns-clause-same : goal.returns-clause-same
returns-clause-same c =
    let bodies = c.args.bodies.now in
    ap (λ cs. bodies_before cs bodies) c.loop-island.invariant.noted
    ∙ island_notes_undo_nothing c.make_room.new.changes.items bodies (take c.loop-island.island-index c.args.islands.now)
    ∙ ap (λ cs. bodies_before cs bodies) c.make_room.ensures.same
    ∙ ap (λ (s : Changes). bodies_before s.bodies bodies) c.self.view_is
