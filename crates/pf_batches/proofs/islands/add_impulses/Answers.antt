use Rattle.std.proofs.Common.{rules, ◌∙◌, ap, subst, sym}
use Rattle.std.proofs.lemmas.List.Elements.{All-push}
use Rattle.std.specs.Prelude.{All}
use Rattle.pf_rows.specs.Row.{Row}
use Rattle.pf_rows.specs.Small.{AreWithin}
use Rattle.pf_bundles.specs.Unknowns.{Unknowns}
use Rattle.pf_batches.proofs.SideBySide.{one_pushed}
use Rattle.pf_batches.proofs.islands.add_impulses.Goals as goal

pub loop-row-preserved : goal.loop-row-preserved
loop-row-preserved c =
    let now = c.loop-row.unknowns.impulses in
    let own = c.in-Some.whole in
    let pushed = c.in_ok-push_impulses-in-Some.ensures.ok in
    let impulses = ap (λ (n : Unknowns). n.impulses) pushed in
    record {
      value = impulses
          ∙ one_pushed (λ (r : Row). r.entry.impulses) c.args.unknowns.now.impulses now c.args.rows.now c.loop-row.row-index
          c.row-item.result own c.loop-row-test.true c.row-item.is (c.in-Some.ensures.value ∙ search rules) c.loop-row.invariant.value;
      size = λ small. subst (All (AreWithin c.args.limit)) (sym impulses)
          (All-push (AreWithin c.args.limit) now own (c.loop-row.invariant.size small) c.in-Some.ensures.size);
      velocities = ap (λ (n : Unknowns). n.velocities) pushed ∙ c.loop-row.invariant.velocities;
    }
