use Rattle.std.proofs.Common.{arith}
use Rattle.std.proofs.lemmas.Int.{ints, to_z-of_z}
use Rattle.pf_num.proofs.Shift.{shifted_is}
use Rattle.pf_num.proofs.quotient.rounded_shift.Goals as goal

pub returns-clause-value : goal.returns-clause-value
returns-clause-value c = grind (arith, ints, to_z-of_z, shifted_is)
