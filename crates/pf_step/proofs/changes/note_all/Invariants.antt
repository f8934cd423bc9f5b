use Rattle.std.proofs.Common.{◌≡◌, ◌++◌, take}
use Rattle.pf_step.specs.Changes.{changes_of}
use Rattle.pf_step.proofs.changes.note_all.Given as goal

abbrev pub invariant-loop-number : goal.invariant-loop-number
invariant-loop-number l =
    l.changes.items ≡ l.initial.changes.items ++ changes_of l.bodies (take l.number-index l.numbers)
