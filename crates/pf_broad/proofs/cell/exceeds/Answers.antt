use Rattle.std.proofs.Common.{w64, arith}
use Rattle.std.proofs.lemmas.Int.{to_z-of_z, fits_signed_mul}
use Rattle.pf_broad.proofs.cell.exceeds.Goals as goal

pub returns : goal.returns
returns c =
    let columns_fit = c.ranges.columns in
    let rows_fit = c.ranges.rows in
    let product_fits = fits_signed_mul w64 c.args.columns c.args.rows 2147483649 2147483649 c.requires.columns c.requires.rows (omega arith) in
    simp to_z-of_z
