use Rattle.std.proofs.Common.{◌≡◌, ◌++◌, take}
use Rattle.pf_step.specs.Changes.{numbers_of}
use Rattle.pf_step.proofs.work.add_numbers.Given as goal

abbrev pub invariant-loop-change : goal.invariant-loop-change
invariant-loop-change l = l.numbers.items ≡ l.initial.numbers.items ++ numbers_of (take l.change-index l.changes)
