use Rattle.pf_num.proofs.Odd.{odd_is}
use Rattle.pf_num.proofs.quotient.last_bit.Goals as goal

pub returns : goal.returns
returns c = odd_is c.args.n c.ranges.n
