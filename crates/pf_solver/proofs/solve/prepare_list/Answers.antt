use Rattle.std.proofs.Common.{length, ap, subst, sym, ◌∙◌}
use Rattle.std.proofs.lemmas.List.{length-map}
use Rattle.std.specs.Prelude.{All}
use Rattle.pf_rows.specs.Row.{IsEntryOf}
use Rattle.pf_solver.proofs.Prepared.{prepared_fit}
use Rattle.pf_solver.proofs.solve.prepare_list.Goals as goal

pub returns-clause-rows : goal.returns-clause-rows
returns-clause-rows c =
    let count = ap length c.fall.ensures ∙ length-map c.args.bodies.now _ in
    subst (λ n. All (λ r. IsEntryOf n r.entry) c.prepare_all.new.rows) (sym count)
    (prepared_fit c.args.scene.now c.fall.new.bodies (length c.args.bodies.now) c.args.rows.now c.prepare_all.new.rows c.prepare_all.ensures c.requires)
