use Rattle.pf_c.proofs.SameKind.{same_kind}
use Rattle.pf_c.proofs.laws.errors_of_one_code_are_alike.Goals as goal

pub returns : goal.returns
returns c = same_kind
