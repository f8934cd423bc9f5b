use Rattle.std.proofs.Common.{◌≡◌, ◌&&◌, w64, ℤ, pos, ◌+ℤ◌, FitsSigned, to_z, rules, arith, ap, ◌∙◌}
use Rattle.std.proofs.lemmas.Int.{ints, to_z-of_z}
use Rattle.std.specs.Ordering.{int_eq}
use Rattle.pf_broad.specs.Cell.{is_between}
use Rattle.pf_broad.specs.Stored.{stored_in, with_listed_body}
use Rattle.pf_broad.proofs.Listing.{columns-more, columns-end}
use Rattle.pf_broad.proofs.cells.add_body.Goals as goal

pub loop-x-preserved : goal.loop-x-preserved
loop-x-preserved c =
    let x = to_z w64 c.loop-x.x-bits in
    let next_fits : FitsSigned w64 (x +ℤ pos 1) = search rules in
    let rows = λ (y : ℤ). is_between c.args.range.bottom c.args.range.top y in
    simp to_z-of_z
    record {
      from = omega (arith, ints);
      upto = omega (arith, ints);
      listed = λ q. c.in_ok-add_to_column.ensures q ∙ ap (with_listed_body (int_eq x q.x && rows q.y) c.args.body) (c.loop-x.invariant.listed q)
          ∙ columns-more c.args.range.left x q.x (rows q.y) c.args.body (stored_in c.args.cells.now q) c.loop-x.invariant.from;
    }

pub returns : goal.returns
returns c =
    let x = to_z w64 c.loop-x.x-bits in
    let done : x ≡ c.args.range.right +ℤ pos 1 = omega (arith, ints) in
    let listed = simp done at c.loop-x.invariant.listed in
    λ q. listed q ∙ columns-end c.args.range.left c.args.range.right q.x (is_between c.args.range.bottom c.args.range.top q.y) c.args.body (stored_in c.args.cells.now q)
