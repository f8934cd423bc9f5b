use Rattle.std.proofs.Common.{arith}
use Rattle.pf_context.specs.Plain.{plain_contact}
use Rattle.pf_context.proofs.Buffers.{written_more}
use Rattle.pf_context.proofs.plain.write_contacts.Goals as goal

pub loop-i-preserved : goal.loop-i-preserved
loop-i-preserved c =
    let item = c.index-contacts-i.result in
    let read = c.index-contacts-i.is in
    let more = written_more plain_contact c.args.contacts.now c.args.buffer.now c.loop-i.i item (omega arith) (omega arith) in
    cc
