use Rattle.std.proofs.Common.{◌∙◌}
use Rattle.pf_pool.proofs.pool.Pool.collect.Goals as goal

pub loop-preserved : goal.loop-preserved
loop-preserved g c = record {
  next = c.loop.invariant.next;
  knows = c.receive.ensures.same ∙ c.loop.invariant.knows;
  count = c.loop.invariant.count;
  kept = c.loop.invariant.kept;
  done = c.loop.invariant.done;
}
