use Rattle.std.proofs.Common.{arith}
use Rattle.std.proofs.lemmas.Int.{ints, to_z-of_z}
use Rattle.pf_num.proofs.Signs.{product_in_range}
use Rattle.pf_num.proofs.quotient.long_product.Goals as goal

pub returns-in-Some-clause-value : goal.returns-in-Some-clause-value
returns-in-Some-clause-value c = grind (arith, ints, to_z-of_z, product_in_range)
