use Rattle.std.proofs.Common.{◌≡◌, ◌++◌, drop, length, map}
use Rattle.std.specs.Map.Iter.{deref_pair}
use Rattle.pf_context.specs.Frames.{command_frame, later_commands}
use Rattle.pf_context.proofs.frames.write_frames.Given as goal

abbrev pub invariant-loop-name : goal.invariant-loop-name
invariant-loop-name l =
    (l.place ≡ length (later_commands l.tick (map deref_pair l.yielded)))
    × (l.frames ≡ map command_frame (later_commands l.tick (map deref_pair l.yielded)) ++ drop l.place l.initial.frames)
