use Rattle.std.proofs.Common.{arith, refl}
use Rattle.pf_batches.proofs.InBundles.{all_solved, bundle_at, bundle_more, many_after}
use Rattle.pf_batches.proofs.passes.solve_bundles.Goals as goal

pub solve_bundle-requires-clause-seats : goal.solve_bundle-requires-clause-seats
solve_bundle-requires-clause-seats g c =
    (bundle_at c.args.rows.now c.args.unknowns.now c.loop-bundle.unknowns c.args.bundles.now c.loop-bundle.bundle-index c.bundle-item.result
    (omega arith) c.bundle-item.is c.loop-bundle.invariant.many c.requires.bundles).seats

pub solve_bundle-requires-clause-rows : goal.solve_bundle-requires-clause-rows
solve_bundle-requires-clause-rows g c =
    (bundle_at c.args.rows.now c.args.unknowns.now c.loop-bundle.unknowns c.args.bundles.now c.loop-bundle.bundle-index c.bundle-item.result
    (omega arith) c.bundle-item.is c.loop-bundle.invariant.many c.requires.bundles).places

pub solve_bundle-requires-clause-held : goal.solve_bundle-requires-clause-held
solve_bundle-requires-clause-held g c =
    (bundle_at c.args.rows.now c.args.unknowns.now c.loop-bundle.unknowns c.args.bundles.now c.loop-bundle.bundle-index c.bundle-item.result
    (omega arith) c.bundle-item.is c.loop-bundle.invariant.many c.requires.bundles).held

pub loop-bundle-preserved : goal.loop-bundle-preserved
loop-bundle-preserved g c = record {
  value =
      bundle_more g.L.ContactStep.step c.args.rows.now c.args.bundles.now c.args.unknowns.now c.loop-bundle.bundle-index c.bundle-item.result
      c.loop-bundle.unknowns c.solve_bundle.new.unknowns (omega arith) c.bundle-item.is (c.if-not-solve_bundle.ensures.value refl)
      c.loop-bundle.invariant.value;
  within = c.if-not-solve_bundle.ensures.within refl;
  many = many_after c.args.unknowns.now c.loop-bundle.unknowns c.solve_bundle.new.unknowns c.loop-bundle.invariant.many c.solve_bundle.ensures.many;
}

pub returns-clause-value : goal.returns-clause-value
returns-clause-value g c =
    all_solved g.L.ContactStep.step c.args.rows.now c.args.bundles.now c.args.unknowns.now c.loop-bundle.bundle-index c.loop-bundle.unknowns
    (omega arith) c.loop-bundle.invariant.value
