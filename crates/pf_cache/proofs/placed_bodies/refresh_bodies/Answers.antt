use Rattle.std.proofs.Common.{◌≡◌, ◌<◌, ◌∙◌, ap, false, true, sym, length, arith}
use Rattle.std.specs.Prelude.{get_or}
use Rattle.std.proofs.lemmas.List.{get_or_default, length-replicate, length-set}
use Rattle.pf_shapes.specs.Bounds.{fixture_bounds}
use Rattle.pf_shapes.specs.Fixture.{Fixture}
use Rattle.pf_shapes.specs.Body.{BodyState}
use Rattle.pf_broad.specs.Pairs.{all_bounds}
use Rattle.pf_broad.proofs.Within.{length-all_bounds}
use Rattle.pf_cache.specs.Manifolds.{placed_shapes, same_placed_shape, shape_of_body}
use Rattle.pf_cache.proofs.Bounded.{bounds_of_body, length-placed_shapes}
use Rattle.pf_cache.proofs.Placing.{zip_at}
use Rattle.pf_cache.proofs.Standing.{bounded_after, flagged_after, flagged_first, flags_all, ordered_all, same_after, same_all, same_at}
use Rattle.pf_cache.proofs.placed_bodies.refresh_bodies.Goals as goal

pub loop-number-init : goal.loop-number-init
loop-number-init c =
    let shapes = c.args.shapes.now in
    let bounds = c.args.bounds.now in
    let new = placed_shapes c.args.fixtures.now c.args.bodies.now in
    let new_bounds = all_bounds c.args.fixtures.now c.args.bodies.now in
    record {
      shapes = λ k below other. same_at shapes new k
          (c.requires.others (sym c.requires.bodies) k (omega (arith, below, c.requires.bodies)) other).0;
      bounds = λ k below other. same_at bounds new_bounds k
          (c.requires.others (sym c.requires.bodies) k (omega (arith, below, c.requires.bodies, c.requires.bounds.as_many)) other).1;
      each = λ k below s b.
          bounds_of_body shapes bounds k (get_or shapes k s) (get_or bounds k b) c.requires.bounds below
          (get_or_default shapes k s _ below)
          (get_or_default bounds k b _ (omega (arith, below, c.requires.bounds.as_many)));
      unmoved = λ k below. flagged_first c.args.unmoved.now shapes new k (length shapes) c.requires.flags below;
    }

pub refresh_body-is_unmoved-requires : goal.refresh_body-is_unmoved-requires
refresh_body-is_unmoved-requires c =
    let within = c.requires.dirty c.loop-number.number-index 0 c.loop-number-test.true in
    c.loop-number.invariant.each (get_or c.args.dirty.now c.loop-number.number-index 0)
    (omega (arith, within, c.requires.bounds.as_many, c.loop-number.auto.shapes)) c.index-shapes-number.result c.index-bounds-number.result

pub loop-number-preserved : goal.loop-number-preserved
loop-number-preserved c =
    let fixtures = c.args.fixtures.now in
    let bodies = c.args.bodies.now in
    let old = c.args.shapes.now in
    let shapes = c.loop-number.shapes in
    let bounds = c.loop-number.bounds in
    let dirty = c.args.dirty.now in
    let i = c.loop-number.number-index in
    let new = placed_shapes fixtures bodies in
    let new_bounds = all_bounds fixtures bodies in
    let n = get_or dirty i 0 in
    let fixture = c.index-fixtures-number.result in
    let body = c.index-bodies-number.result in
    let shape = c.refresh_body-is_unmoved.new.shape in
    let bound = c.refresh_body-is_unmoved.new.bounds in
    let here = c.loop-number-test.true in
    let n_is : n ≡ get_or dirty i n = get_or_default dirty i 0 n here in
    let listed = c.requires.dirty i 0 here in
    let within : n < length shapes = omega (arith, listed, c.requires.bounds.as_many, c.loop-number.auto.shapes) in
    let as_within : n < length bounds = omega (arith, listed, c.loop-number.auto.bounds) in
    let fixture_there : n < length fixtures = omega (arith, listed, c.requires.bounds.as_many, c.requires.fixtures) in
    let body_there : n < length bodies = omega (arith, listed, c.requires.bounds.as_many, c.requires.bodies) in
    let paired : length bodies ≡ length fixtures = omega (arith, c.requires.fixtures, c.requires.bodies) in
    let shapes_long = length-placed_shapes fixtures bodies paired in
    let long : length shapes ≡ length new = omega (arith, shapes_long, c.requires.bodies, c.loop-number.auto.shapes) in
    let bounds_long = length-all_bounds fixtures bodies paired in
    let as_long : length bounds ≡ length new_bounds =
    omega (arith, bounds_long, c.requires.bodies, c.requires.bounds.as_many, c.loop-number.auto.bounds) in
    let shape_is : shape ≡ get_or new n shape =
    c.refresh_body-is_unmoved.ensures.shape
    ∙ zip_at (λ (m : Fixture × BodyState). shape_of_body m.0 m.1) fixtures bodies n fixture body shape fixture_there body_there
    c.index-fixtures-number.is c.index-bodies-number.is in
    let bound_is : bound ≡ get_or new_bounds n bound =
    c.refresh_body-is_unmoved.ensures.bounds
    ∙ zip_at (λ (m : Fixture × BodyState). fixture_bounds m.0 m.1) fixtures bodies n fixture body bound fixture_there body_there
    c.index-fixtures-number.is c.index-bodies-number.is in
    let flags_long = ap length c.requires.flags ∙ length-replicate (length old) true in
    let flag_there : n < length c.loop-number.unmoved =
    omega (arith, listed, c.requires.bounds.as_many, c.loop-number.auto.unmoved, flags_long) in
    let still = length-set shapes n shape in
    let as_still = length-set bounds n bound in
    record {
      shapes = λ k below behind. same_after shapes new dirty i n k shape here n_is long within shape_is
          (c.loop-number.invariant.shapes k (omega (arith, below, still))) behind;
      bounds = λ k below behind. same_after bounds new_bounds dirty i n k bound here n_is as_long as_within bound_is
          (c.loop-number.invariant.bounds k (omega (arith, below, as_still))) behind;
      each = λ k below. bounded_after shapes bounds n k fixture body shape bound within as_within
          c.refresh_body-is_unmoved.ensures.shape c.refresh_body-is_unmoved.ensures.bounds c.refresh_body-is_unmoved.ensures.ordered
          (c.loop-number.invariant.each k (omega (arith, below, still)));
      unmoved = λ k below.
          flagged_after c.loop-number.unmoved shapes old new n k (get_or c.loop-number.unmoved n false) c.refresh_body-is_unmoved.result shape
          c.index-shapes-number.result
          flag_there within long shape_is c.index-shapes-number.is (get_or_default c.loop-number.unmoved n false _ flag_there)
          (c.refresh_body-is_unmoved.ensures.unmoved
          ∙ (λ i. same_placed_shape (sym c.index-shapes-number.is i) (sym c.refresh_body-is_unmoved.ensures.shape i)))
          (c.loop-number.invariant.unmoved n (omega (arith, within, c.loop-number.auto.shapes))) (c.loop-number.invariant.unmoved k below);
    }

pub returns-clause-shapes : goal.returns-clause-shapes
returns-clause-shapes c =
    let long = length-placed_shapes c.args.fixtures.now c.args.bodies.now (omega (arith, c.requires.fixtures, c.requires.bodies)) in
    same_all c.loop-number.shapes (placed_shapes c.args.fixtures.now c.args.bodies.now) c.args.dirty.now c.loop-number.number-index
    (omega (arith, long, c.requires.bodies, c.loop-number.auto.shapes)) c.loop-number-test.false c.loop-number.invariant.shapes

pub returns-clause-bounds : goal.returns-clause-bounds
returns-clause-bounds c =
    let long = length-all_bounds c.args.fixtures.now c.args.bodies.now (omega (arith, c.requires.fixtures, c.requires.bodies)) in
    same_all c.loop-number.bounds (all_bounds c.args.fixtures.now c.args.bodies.now) c.args.dirty.now c.loop-number.number-index
    (omega (arith, long, c.requires.bodies, c.requires.bounds.as_many, c.loop-number.auto.bounds)) c.loop-number-test.false
    c.loop-number.invariant.bounds

pub returns-clause-ordered : goal.returns-clause-ordered
returns-clause-ordered c =
    ordered_all c.loop-number.shapes c.loop-number.bounds
    (omega (arith, c.requires.bounds.as_many, c.loop-number.auto.shapes, c.loop-number.auto.bounds)) c.loop-number.invariant.each

pub returns-clause-unmoved : goal.returns-clause-unmoved
returns-clause-unmoved c =
    let new = placed_shapes c.args.fixtures.now c.args.bodies.now in
    let shapes_long = length-placed_shapes c.args.fixtures.now c.args.bodies.now (omega (arith, c.requires.fixtures, c.requires.bodies)) in
    let are = same_all c.loop-number.shapes new c.args.dirty.now c.loop-number.number-index
    (omega (arith, shapes_long, c.requires.bodies, c.loop-number.auto.shapes)) c.loop-number-test.false c.loop-number.invariant.shapes in
    let flags_long = ap length c.requires.flags ∙ length-replicate (length c.args.shapes.now) true in
    flags_all c.loop-number.unmoved c.loop-number.shapes c.args.shapes.now new (omega (arith, shapes_long, c.requires.bodies))
    (omega (arith, c.loop-number.auto.unmoved, flags_long)) are c.loop-number.invariant.unmoved
