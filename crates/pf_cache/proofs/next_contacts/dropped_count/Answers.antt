use Rattle.std.proofs.Common.{arith}
use Rattle.pf_cache.proofs.Splicing.{dropped_more}
use Rattle.pf_cache.proofs.next_contacts.dropped_count.Goals as goal

pub overflow_add-dropped : goal.overflow_add-dropped
overflow_add-dropped c =
    let few = dropped_more c.args.splices.now c.loop-splice.splice-index (record { kept = 0; dropped = 0; added = 0 }) c.loop-splice-test.true in
    omega (arith, few, c.loop-splice.invariant, c.requires)
