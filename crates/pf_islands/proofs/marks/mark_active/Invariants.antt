use Rattle.std.proofs.Common.{length}
use Rattle.pf_shapes.specs.Body.{BodyState}
use Rattle.pf_islands.proofs.Noted.{AreNoted, any_of}
use Rattle.pf_islands.proofs.marks.mark_active.Given as goal

abbrev pub invariant-loop-number : goal.invariant-loop-number
invariant-loop-number l =
    AreNoted (length l.labels) l.marks (any_of (λ (b : BodyState). b.awake) l.labels l.bodies l.number)
