use Rattle.std.proofs.Common.{◌≡◌, ◌+◌, ◌++◌, length, map, take}
use Rattle.pf_text.specs.Fields.{parts_of}
use Rattle.pf_text.proofs.fields.split_into.Given as goal

abbrev pub invariant-loop-part : goal.invariant-loop-part
invariant-loop-part l = record {
  counted : l.count + length (parts_of l.rest) ≡ length (parts_of l.fn.line);
  parts : map (λ part. part.now) (take l.count l.parts) ++ parts_of l.rest ≡ parts_of l.fn.line;
}

abbrev pub decreases-loop-part : goal.decreases-loop-part
decreases-loop-part l = length l.rest
