use Rattle.pf_text.proofs.FirstByte.{split_first, split_none}
use Rattle.pf_text.proofs.fields.split_once.Goals as goal

pub returns-in-Some-clause-some : goal.returns-in-Some-clause-some
returns-in-Some-clause-some c = split_first 32 c.args.line.now c.in-Some.end c.in-Some.ensures

pub returns-in-None-clause-none : goal.returns-in-None-clause-none
returns-in-None-clause-none c = split_none 32 c.args.line.now c.in-None.ensures
