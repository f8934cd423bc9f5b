use Rattle.std.proofs.Common.{◌∙◌, ap, subst, sym}
use Rattle.std.proofs.lemmas.List.Elements.{All-push}
use Rattle.std.specs.Prelude.{All}
use Rattle.pf_rows.specs.Small.{IsShort}
use Rattle.pf_bundles.specs.Unknowns.{Unknowns, Velocity}
use Rattle.pf_batches.specs.Unknowns.{velocity_of}
use Rattle.pf_batches.proofs.SideBySide.{one_pushed}
use Rattle.pf_batches.proofs.islands.add_velocities.Goals as goal

pub loop-body-preserved : goal.loop-body-preserved
loop-body-preserved c =
    let now = c.loop-body.unknowns.velocities in
    let own = c.in-Some.velocity in
    let P = λ (v : Velocity). IsShort c.args.limit v.velocity in
    let pushed = c.in_ok-push_velocity-in-Some.ensures.ok in
    let velocities = ap (λ (n : Unknowns). n.velocities) pushed in
    record {
      value = velocities
          ∙ one_pushed velocity_of c.args.unknowns.now.velocities now c.args.bodies.now c.loop-body.body-index c.body-item.result own
          c.loop-body-test.true c.body-item.is (c.in-Some.ensures.value ∙ ap velocity_of c.body.view_is) c.loop-body.invariant.value;
      size = λ short. subst (All P) (sym velocities)
          (All-push P now own (c.loop-body.invariant.size short) c.in-Some.ensures.size);
      impulses = ap (λ (n : Unknowns). n.impulses) pushed ∙ c.loop-body.invariant.impulses;
    }
