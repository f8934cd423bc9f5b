use Rattle.std.proofs.Common.{[]}
use Rattle.pf_shapes.proofs.Silence.{never_writes}
use Rattle.pf_shapes.proofs.scene.Scene.read.Goals as goal

pub unreachable-requires-in-Err-Write : goal.unreachable-requires-in-Err-Write
unreachable-requires-in-Err-Write c =
    let stops = rw c.in-Err-Write.field-0-is at (c.in-Err-Write.ensures.driven c.args.text.now [] c.new-2.ensures c.new-output.ensures.contents) in
    never_writes _ (rw c.new.ensures at stops)
