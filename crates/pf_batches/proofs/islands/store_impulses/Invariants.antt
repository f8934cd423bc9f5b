use Rattle.std.proofs.Common.{◌≡◌, take}
use Rattle.pf_batches.specs.Unknowns.{with_impulses}
use Rattle.pf_batches.proofs.islands.store_impulses.Given as goal

abbrev pub invariant-loop-place : goal.invariant-loop-place
invariant-loop-place l = l.rows ≡ with_impulses (take l.place l.impulses) l.initial.rows
