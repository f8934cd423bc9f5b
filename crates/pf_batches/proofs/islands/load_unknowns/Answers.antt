use Rattle.std.proofs.Common.{rules, ◌∙◌, ◌++◌, ap, ap₂, map, subst, sym}
use Rattle.std.proofs.lemmas.List.Elements.{All-nil}
use Rattle.std.specs.Prelude.{All}
use Rattle.pf_rows.specs.Row.{Row}
use Rattle.pf_rows.specs.Small.{AreWithin, IsShort}
use Rattle.pf_bundles.specs.Unknowns.{Unknowns, Velocity}
use Rattle.pf_islands.specs.Split.{Island}
use Rattle.pf_batches.specs.Unknowns.{velocity_of}
use Rattle.pf_batches.proofs.SideBySide.{unknowns_more}
use Rattle.pf_batches.proofs.islands.load_unknowns.Goals as goal

pub loop-island-init : goal.loop-island-init
loop-island-init c =
    let IsSlow = λ (v : Velocity). IsShort c.args.limit v.velocity in
    record {
      velocities = ap (λ (n : Unknowns). n.velocities) c.clear.ensures;
      impulses = ap (λ (n : Unknowns). n.impulses) c.clear.ensures;
      short = subst (λ (n : Unknowns). All IsSlow n.velocities) (sym c.clear.ensures) (All-nil IsSlow);
      small = subst (λ (n : Unknowns). All (AreWithin c.args.limit) n.impulses) (sym c.clear.ensures) (All-nil (AreWithin c.args.limit));
    }

pub loop-island-preserved : goal.loop-island-preserved
loop-island-preserved c =
    let k = c.loop-island.island-index in
    let own = c.island.view_is ∙ c.island-item.is in
    let more = unknowns_more c.args.islands.now k c.island-item.result c.loop-island-test.true in
    let slow = c.in_ok-add_velocities.ensures in
    let small = c.in_ok-add_impulses.ensures in
    record {
      velocities = small.velocities
          ∙ slow.value (search rules)
          ∙ ap₂ (λ front rest. front ++ rest) c.loop-island.invariant.velocities
          (ap (map velocity_of) (c.as_slice.ensures ∙ ap (λ (i : Island). i.bodies) own))
          ∙ sym (ap (λ (n : Unknowns). n.velocities) more);
      impulses = small.value (search rules)
          ∙ ap₂ (λ front rest. front ++ rest) (slow.impulses ∙ c.loop-island.invariant.impulses)
          (ap (map (λ (r : Row). r.entry.impulses)) (c.as_slice-in-loop-island.ensures.value ∙ ap (λ (i : Island). i.rows) own))
          ∙ sym (ap (λ (n : Unknowns). n.impulses) more);
      short = subst (All (λ (v : Velocity). IsShort c.args.limit v.velocity)) (sym small.velocities) (slow.size (search rules) c.loop-island.invariant.short);
      small = small.size (search rules)
          (subst (All (AreWithin c.args.limit)) (sym slow.impulses) c.loop-island.invariant.small);
    }
