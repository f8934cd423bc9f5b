use Rattle.std.proofs.Common.{◌≡◌, ◌++◌, length, map}
use Rattle.pf_text.specs.Fields.{parts_of}
use Rattle.pf_text.proofs.fields.parts_of.Given as goal

abbrev pub invariant-loop-part : goal.invariant-loop-part
invariant-loop-part l = map (λ part. part.now) l.parts.items ++ parts_of l.rest ≡ parts_of l.fn.line

abbrev pub decreases-loop-part : goal.decreases-loop-part
decreases-loop-part l = length l.rest
