use Rattle.std.proofs.Common.{arith}
use Rattle.pf_context.specs.Plain.{plain_body}
use Rattle.pf_context.proofs.Buffers.{written_more}
use Rattle.pf_context.proofs.plain.write_bodies.Goals as goal

pub loop-i-preserved : goal.loop-i-preserved
loop-i-preserved c =
    let item = c.index-bodies-i.result in
    let read = c.index-bodies-i.is in
    let more = written_more plain_body c.args.bodies.now c.args.buffer.now c.loop-i.i item (omega arith) (omega arith) in
    cc
