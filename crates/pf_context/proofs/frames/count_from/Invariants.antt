use Rattle.std.proofs.Common.{◌≡◌, length, map}
use Rattle.std.specs.Map.Iter.{deref_pair}
use Rattle.pf_context.specs.Frames.{later_commands}
use Rattle.pf_context.proofs.frames.count_from.Given as goal

abbrev pub invariant-loop-name : goal.invariant-loop-name
invariant-loop-name l = l.count ≡ length (later_commands l.tick (map deref_pair l.yielded))
