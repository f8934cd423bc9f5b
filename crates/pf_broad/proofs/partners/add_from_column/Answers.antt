use Rattle.std.proofs.Common.{◌≡◌, ◌&&◌, ◌||◌, length, nat_lt, w64, pos, ◌+ℤ◌, FitsSigned, to_z, rules, arith, ap, ◌∙◌}
use Rattle.std.proofs.lemmas.Int.{ints, to_z-of_z}
use Rattle.pf_broad.specs.declared.cell.Cell.{Cell}
use Rattle.pf_broad.specs.Pairs.{is_pair}
use Rattle.pf_broad.specs.Grid.{bodies_in, is_listed, members}
use Rattle.pf_broad.specs.Partners.{has_body}
use Rattle.pf_broad.proofs.Partnering.{bodies_in-members, filter-AreBodies, has_body-more, rows-more, rows-end}
use Rattle.pf_broad.proofs.partners.add_from_column.Goals as goal

pub add_overlapping-requires-clause-others : goal.add_overlapping-requires-clause-others
add_overlapping-requires-clause-others c =
    let bs = c.args.bounds.now in
    filter-AreBodies bs _ c.bodies_in.result.now (c.bodies_in.ensures ∙ bodies_in-members bs c.args.grid.now _ c.requires.grid)

pub loop-y-preserved : goal.loop-y-preserved
loop-y-preserved c =
    let x_fits : FitsSigned w64 c.args.x = c.ranges.x in
    let bs = c.args.bounds.now in
    let i = c.args.i in
    let y = to_z w64 c.loop-y.y-bits in
    let next_fits : FitsSigned w64 (y +ℤ pos 1) = search rules in
    let found = simp to_z-of_z at c.loop-y.invariant.found in
    let cell : Cell = record { x = c.args.x; y = y } in
    let in_cell : c.bodies_in.result.now ≡ bodies_in c.args.grid.now cell = simp to_z-of_z at c.bodies_in.ensures in
    let others : c.bodies_in.result.now ≡ members bs cell = in_cell ∙ bodies_in-members bs c.args.grid.now cell c.requires.grid in
    simp to_z-of_z
    record {
      from = omega (arith, ints);
      upto = omega (arith, ints);
      found = λ j.
          has_body-more bs i j (is_listed bs cell) c.loop-y.partners.items c.add_overlapping.new.partners.items c.bodies_in.result.now c.in_ok-add_overlapping.ensures others
          ∙ ap (λ b. b || (is_pair bs i j && (is_listed bs cell j && nat_lt j (length bs)))) (found j)
          ∙ rows-more bs c.requires.ordered i j c.args.x c.args.range.bottom y (has_body c.args.partners.now.items j) c.loop-y.invariant.from;
    }

pub returns : goal.returns
returns c =
    let x_fits : FitsSigned w64 c.args.x = c.ranges.x in
    let bs = c.args.bounds.now in
    let y = to_z w64 c.loop-y.y-bits in
    let done : y ≡ c.args.range.top +ℤ pos 1 = omega (arith, ints) in
    let found = simp (to_z-of_z, done) at c.loop-y.invariant.found in
    λ j. found j
    ∙ ap (λ b. has_body c.args.partners.now.items j || (is_pair bs c.args.i j && b)) (rows-end bs c.requires.ordered c.args.range j c.args.x c.requires.range.rows)
