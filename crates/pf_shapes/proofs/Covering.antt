-- The bounds of a body contain the positions that it covers, so two bodies that cover one position
-- have bounds that overlap.
use Rattle.std.proofs.Common.{◌≡◌, Bool, true}
use Rattle.pf_rot.specs.Vector.{V2}
use Rattle.pf_shapes.specs.declared.fixture.Shape.{Shape}
use Rattle.pf_shapes.specs.declared.fixture.Shape.TheVariants.{Circle, Box}
use Rattle.pf_shapes.specs.Fixture.{Fixture, is_static}
use Rattle.pf_shapes.specs.Body.{BodyState}
use Rattle.pf_shapes.specs.Bounds.{shape_bounds, fixture_bounds, overlaps}
use Rattle.pf_shapes.specs.Laws.{Covers, IsInBounds}
use Rattle.pf_shapes.proofs.Circles.{circle_stays}
use Rattle.pf_shapes.proofs.Sharing.{overlaps-shared_position}
use Rattle.pf_shapes.proofs.Staying.{box_stays}

covered_in_shape_bounds : (shape : Shape) (body : BodyState) (is_static : Bool) (p : V2) → Covers shape body p → IsInBounds (shape_bounds shape body.position body.rotation is_static) p
covered_in_shape_bounds (Circle r) body is_static p h = circle_stays r body.position body.rotation is_static p h.0 h.1 h.2 h.3 h.4
covered_in_shape_bounds (Box hx hy) body is_static p h = rw h.2 (box_stays hx hy body.position body.rotation is_static h.0 h.1)

covered_in_bounds : (f : Fixture) (body : BodyState) (p : V2) → Covers f.shape body p → IsInBounds (fixture_bounds f body) p
unfolding fixture_bounds
covered_in_bounds f body p h = covered_in_shape_bounds f.shape body (is_static f) p h

pub bodies_overlap : (f g : Fixture) (a b : BodyState) (p : V2) → Covers f.shape a p → Covers g.shape b p → overlaps (fixture_bounds f a) (fixture_bounds g b) ≡ true
bodies_overlap f g a b p ha hb = overlaps-shared_position (fixture_bounds f a) (fixture_bounds g b) p (covered_in_bounds f a p ha) (covered_in_bounds g b p hb)
