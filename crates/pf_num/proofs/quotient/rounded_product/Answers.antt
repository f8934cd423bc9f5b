use Rattle.std.proofs.Common.{arith}
use Rattle.std.proofs.lemmas.Int.{to_z-of_z}
use Rattle.pf_num.proofs.Signs.{short_times}
use Rattle.pf_num.proofs.quotient.rounded_product.Goals as goal

pub short_product-requires : goal.short_product-requires
short_product-requires c = grind (arith, to_z-of_z, short_times)
