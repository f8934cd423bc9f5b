use Rattle.std.proofs.Common.{◌≡◌}
use Rattle.pf_context.specs.Plain.{plain_body}
use Rattle.pf_context.proofs.Buffers.{written}
use Rattle.pf_context.proofs.plain.write_bodies.Given as goal

abbrev pub invariant-loop-i : goal.invariant-loop-i
invariant-loop-i l = l.buffer ≡ written plain_body l.bodies l.initial.buffer l.i
