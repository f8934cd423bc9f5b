use Rattle.std.proofs.Common.{◌≡◌}
use Rattle.std.specs.Iterator.Adapters.{rev_source}
use Rattle.std.specs.Slice.Iter.{iter_rest}
use Rattle.pf_step.specs.Changes.{bodies_before}
use Rattle.pf_step.proofs.changes.undo_bodies.Given as goal

abbrev pub invariant-loop-change : goal.invariant-loop-change
invariant-loop-change l =
    bodies_before (iter_rest (rev_source l.change-iterator)) l.bodies ≡ bodies_before l.changes l.initial.bodies
