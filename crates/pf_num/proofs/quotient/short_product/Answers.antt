use Rattle.std.proofs.Common.{arith}
use Rattle.std.proofs.lemmas.Int.{to_z-of_z}
use Rattle.pf_num.proofs.Range.{product_bound}
use Rattle.pf_num.proofs.Signs.{product_fits, product_magnitude, product_in_range}
use Rattle.pf_num.proofs.quotient.short_product.Goals as goal

pub overflow_mul-a : goal.overflow_mul-a
overflow_mul-a c = grind (arith, to_z-of_z, product_fits)

pub rounded_shift-requires : goal.rounded_shift-requires
rounded_shift-requires c = grind (arith, to_z-of_z, product_fits, product_magnitude)

pub returns-clause-value : goal.returns-clause-value
returns-clause-value c = grind (arith, to_z-of_z, product_fits, product_in_range)

pub returns-clause-bound : goal.returns-clause-bound
returns-clause-bound c = grind (arith, to_z-of_z, product_fits, product_in_range, product_bound)
