use Rattle.std.proofs.Common.{◌∙◌, ap, ap₂, sym, subst₂, refl}
use Rattle.pf_rows.specs.Row.{IsEntryOf, Row}
use Rattle.pf_solver.specs.Velocities.{Batch, bodies_after, pass, row_after}
use Rattle.pf_solver.proofs.Passes.{pass_more, passed_fit, row_is, rows_more, whole_pass}
use Rattle.pf_solver.proofs.velocities.pass.Goals as goal

pub loop-row-init : goal.loop-row-init
unfolding pass
loop-row-init g c = record { bodies = refl; rows = refl }

pub solve_row-requires : goal.solve_row-requires
solve_row-requires g c =
    let i = c.loop-row.row-index in
    let item = c.row-item.result in
    let same = sym c.row-item.is
    ∙ row_is g.L.ContactStep.step c.args.bodies.now c.args.rows.now c.loop-row.rows i item c.loop-row-test.true c.loop-row.invariant.rows c.row-item.is in
    subst₂ (λ n (r : Row). IsEntryOf n r.entry) (sym c.loop-row.auto.bodies) (sym same)
    (c.requires i item c.loop-row-test.true)

pub loop-row-preserved : goal.loop-row-preserved
loop-row-preserved g c =
    let step = g.L.ContactStep.step in
    let i = c.loop-row.row-index in
    let item = c.row-item.result in
    let same = sym c.row-item.is
    ∙ row_is step c.args.bodies.now c.args.rows.now c.loop-row.rows i item c.loop-row-test.true c.loop-row.invariant.rows c.row-item.is in
    record {
      bodies = c.solve_row.ensures.bodies ∙ ap₂ (bodies_after step) c.loop-row.invariant.bodies same
          ∙ sym (ap (λ (b : Batch). b.bodies) (pass_more step c.args.bodies.now c.args.rows.now i item c.loop-row-test.true));
      rows = rows_more step c.args.bodies.now c.args.rows.now c.loop-row.rows i item c.loop-row-test.true c.loop-row.invariant.rows
          c.solve_row.new.row
          (c.solve_row.ensures.row ∙ ap₂ (row_after step) c.loop-row.invariant.bodies same);
    }

pub returns-clause-rows : goal.returns-clause-rows
returns-clause-rows g c =
    let step = g.L.ContactStep.step in
    passed_fit step c.args.bodies.now c.args.rows.now (record { bodies = c.loop-row.bodies; rows = c.loop-row.rows })
    (whole_pass step c.args.bodies.now c.args.rows.now c.loop-row.row-index c.loop-row.bodies c.loop-row.rows c.loop-row-test.false
    c.loop-row.invariant.bodies c.loop-row.invariant.rows) c.requires
