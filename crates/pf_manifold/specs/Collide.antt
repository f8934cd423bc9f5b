-- The contact points of two bodies by their shapes, as Box2D 2.x's b2Contact::Evaluate.
use Rattle.std.specs.Prelude.{ℤ, List}
use Rattle.std.specs.Option.{option_map}
use Rattle.pf_rot.specs.Vector.{neg}
use Rattle.pf_shapes.specs.declared.fixture.Shape.{Shape}
use Rattle.pf_shapes.specs.declared.fixture.Shape.TheVariants.{Circle, Box}
use Rattle.pf_manifold.specs.ContactPoint.{ContactPoint}
use Rattle.pf_manifold.specs.Manifold.{at_most_one}
use Rattle.pf_manifold.specs.PlacedShape.{PlacedShape, OrientedBox}
use Rattle.pf_manifold.specs.Circles.{collide_circles}
use Rattle.pf_manifold.specs.BoxCircle.{collide_box_circle}
use Rattle.pf_manifold.specs.Boxes.{collide_boxes}

-- a box of these half extents at the body's position and rotation
unfoldable pub box_at : ℤ → ℤ → PlacedShape → OrientedBox
box_at hx hy p =
    record { half = record { x = hx; y = hy }; position = p.position; rotation = p.rotation }

-- the contact point with the opposite normal
unfoldable pub mirror_image : ContactPoint → ContactPoint
mirror_image p = record p { normal = neg p.normal }

-- by the shapes of a and b; of a box and a circle, the contact point is computed from the box
unfoldable pub collide_shapes : Shape → Shape → PlacedShape → PlacedShape → List ContactPoint
collide_shapes (Circle ra) (Circle rb) a b =
    at_most_one (collide_circles a.position ra b.position rb)
collide_shapes (Box hx hy) (Circle r) a b =
    at_most_one (collide_box_circle (box_at hx hy a) b.position r)
collide_shapes (Circle r) (Box hx hy) a b =
    at_most_one (option_map mirror_image (collide_box_circle (box_at hx hy b) a.position r))
collide_shapes (Box hx hy) (Box kx ky) a b = collide_boxes (box_at hx hy a) (box_at kx ky b)

-- the contact points of the bodies a and b
unfoldable pub collide : PlacedShape → PlacedShape → List ContactPoint
collide a b = collide_shapes a.shape b.shape a b
