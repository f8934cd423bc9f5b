use Rattle.pf_broad.proofs.Exact.{exact}
use Rattle.pf_broad.proofs.Ascending.{ascending}
use Rattle.pf_broad.proofs.laws.pairs_are_exact.Goals as goal

pub returns-clause-exact : goal.returns-clause-exact
returns-clause-exact c = exact

pub returns-clause-ascending : goal.returns-clause-ascending
returns-clause-ascending c = ascending
