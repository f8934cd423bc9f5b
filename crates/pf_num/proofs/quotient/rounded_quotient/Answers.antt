use Rattle.std.proofs.Common.{arith}
use Rattle.std.proofs.lemmas.Int.{ints, to_z-of_z}
use Rattle.pf_num.proofs.Signs.{quotient_is, quotient-zero}
use Rattle.pf_num.proofs.quotient.rounded_quotient.Goals as goal

pub returns-then-b-eq0-clause-value : goal.returns-then-b-eq0-clause-value
returns-then-b-eq0-clause-value c = grind (arith, ints, to_z-of_z, quotient-zero)

pub returns-clause-value : goal.returns-clause-value
returns-clause-value c = grind (arith, ints, to_z-of_z, quotient_is)
