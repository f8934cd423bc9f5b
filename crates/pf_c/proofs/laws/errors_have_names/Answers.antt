use Rattle.pf_c.proofs.Named.{named}
use Rattle.pf_c.proofs.laws.errors_have_names.Goals as goal

pub returns : goal.returns
returns c = named
