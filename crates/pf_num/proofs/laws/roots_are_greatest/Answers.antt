use Rattle.pf_num.proofs.Roots.{whole_root-meets, root_is}
use Rattle.pf_num.proofs.laws.roots_are_greatest.Goals as goal

pub returns-clause-meets : goal.returns-clause-meets
returns-clause-meets c = whole_root-meets

pub returns-clause-unique : goal.returns-clause-unique
returns-clause-unique c = root_is
