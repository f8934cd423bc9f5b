use Rattle.std.proofs.Common.{◌∙◌, ap, take}
use Rattle.pf_step.specs.Changes.{bodies_before}
use Rattle.pf_step.proofs.Changing.{notes_undo_nothing}
use Rattle.pf_step.proofs.changes.note_all.Goals as goal

pub returns-in_err-note-clause-same : goal.returns-in_err-note-clause-same
returns-in_err-note-clause-same c =
    let bodies = c.args.bodies.now in
    ap (λ cs. bodies_before cs bodies) (c.in_err-note.ensures.err ∙ c.loop-number.invariant)
    ∙ notes_undo_nothing c.args.changes.now.items bodies (take c.loop-number.number-index c.args.numbers.now)

pub returns-clause-same : goal.returns-clause-same
returns-clause-same c =
    let bodies = c.args.bodies.now in
    ap (λ cs. bodies_before cs bodies) c.loop-number.invariant
    ∙ notes_undo_nothing c.args.changes.now.items bodies (take c.loop-number.number-index c.args.numbers.now)
