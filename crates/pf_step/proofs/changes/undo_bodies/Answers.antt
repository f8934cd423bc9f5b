use Rattle.std.proofs.Common.{◌∙◌, ap, sym}
use Rattle.std.proofs.lemmas.List.{nil_from_length}
use Rattle.std.specs.Iterator.Adapters.{rev_source}
use Rattle.std.specs.Slice.Iter.{iter_rest}
use Rattle.pf_step.specs.Changes.{bodies_before}
use Rattle.pf_step.proofs.Changing.{undone_last}
use Rattle.pf_step.proofs.changes.undo_bodies.Goals as goal

pub loop-change-preserved : goal.loop-change-preserved
loop-change-preserved c =
    let rest = iter_rest (rev_source c.next.new.self) in
    ap (bodies_before rest) c.undo_body.ensures
    ∙ undone_last _ rest c.in-Some.change.now c.loop-change.bodies c.in-Some.ensures.steps
    ∙ c.loop-change.invariant

pub returns : goal.returns
unfolding bodies_before
returns c =
    sym (ap (λ cs. bodies_before cs c.loop-change.bodies) (nil_from_length _ c.in-None.ensures.steps.0)) ∙ c.loop-change.invariant
