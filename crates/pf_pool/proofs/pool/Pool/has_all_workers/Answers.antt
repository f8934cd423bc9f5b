use Rattle.std.proofs.Common.{ap, length, arith}
use Rattle.pf_pool.proofs.Answered.{all_there}
use Rattle.pf_pool.proofs.pool.Pool.has_all_workers.Goals as goal

pub returns-clause-all : goal.returns-clause-all
returns-clause-all g c all =
    let same = ap length c.self.view_is in
    all_there c.args.self.now c.loop-number.number (omega (arith, c.loop-number-test.false, same)) c.loop-number.invariant
