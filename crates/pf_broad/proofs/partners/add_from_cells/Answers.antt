use Rattle.std.proofs.Common.{◌≡◌, ◌&&◌, ◌||◌, w64, pos, ◌+ℤ◌, FitsSigned, to_z, rules, arith, ap, ◌∙◌}
use Rattle.std.proofs.lemmas.Int.{ints, to_z-of_z}
use Rattle.pf_broad.specs.Pairs.{is_pair}
use Rattle.pf_broad.specs.Partners.{has_body, is_found_in_column}
use Rattle.pf_broad.proofs.Partnering.{columns-more, columns-end}
use Rattle.pf_broad.proofs.partners.add_from_cells.Goals as goal

pub loop-x-preserved : goal.loop-x-preserved
loop-x-preserved c =
    let bs = c.args.bounds.now in
    let i = c.args.i in
    let x = to_z w64 c.loop-x.x-bits in
    let next_fits : FitsSigned w64 (x +ℤ pos 1) = search rules in
    simp to_z-of_z
    record {
      from = omega (arith, ints);
      upto = omega (arith, ints);
      found = λ j.
          c.in_ok-add_from_column.ensures j
          ∙ ap (λ b. b || (is_pair bs i j && is_found_in_column bs x c.args.range j)) (c.loop-x.invariant.found j)
          ∙ columns-more bs c.requires.ordered i j c.args.range x (has_body c.args.partners.now.items j) c.loop-x.invariant.from;
    }

pub returns : goal.returns
returns c =
    let bs = c.args.bounds.now in
    let x = to_z w64 c.loop-x.x-bits in
    let done : x ≡ c.args.range.right +ℤ pos 1 = omega (arith, ints) in
    let found = simp done at c.loop-x.invariant.found in
    λ j. found j
    ∙ ap (λ b. has_body c.args.partners.now.items j || (is_pair bs c.args.i j && b)) (columns-end bs c.requires.ordered c.args.range j c.requires.range.columns)
