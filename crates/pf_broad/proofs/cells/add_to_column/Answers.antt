use Rattle.std.proofs.Common.{◌≡◌, ◌&&◌, w64, pos, ◌+ℤ◌, FitsSigned, to_z, rules, arith, ap, ◌∙◌}
use Rattle.std.proofs.lemmas.Int.{ints, to_z-of_z}
use Rattle.std.specs.Ordering.{int_eq}
use Rattle.pf_broad.specs.Stored.{stored_in, with_listed_body}
use Rattle.pf_broad.proofs.Listing.{rows-more, rows-end}
use Rattle.pf_broad.proofs.cells.add_to_column.Goals as goal

pub loop-y-preserved : goal.loop-y-preserved
loop-y-preserved c =
    let x_fits : FitsSigned w64 c.args.x = c.ranges.x in
    let y = to_z w64 c.loop-y.y-bits in
    let next_fits : FitsSigned w64 (y +ℤ pos 1) = search rules in
    let listed = simp to_z-of_z at c.loop-y.invariant.listed in
    let added = simp to_z-of_z at c.in_ok-add_to_cell.ensures in
    simp to_z-of_z
    record {
      from = omega (arith, ints);
      upto = omega (arith, ints);
      listed = λ q. added q ∙ ap (with_listed_body (int_eq c.args.x q.x && int_eq y q.y) c.args.body) (listed q)
          ∙ rows-more (int_eq c.args.x q.x) c.args.range.bottom y q.y c.args.body (stored_in c.args.cells.now q) c.loop-y.invariant.from;
    }

pub returns : goal.returns
returns c =
    let x_fits : FitsSigned w64 c.args.x = c.ranges.x in
    let y = to_z w64 c.loop-y.y-bits in
    let done : y ≡ c.args.range.top +ℤ pos 1 = omega (arith, ints) in
    let listed = simp (to_z-of_z, done) at c.loop-y.invariant.listed in
    λ q. listed q ∙ rows-end (int_eq c.args.x q.x) c.args.range.bottom c.args.range.top q.y c.args.body (stored_in c.args.cells.now q)
