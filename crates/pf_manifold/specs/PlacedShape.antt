-- Shapes with their positions and rotations, as Box2D's b2Shape with a b2Transform.
use Rattle.pf_rot.specs.Vector.{V2, add, sub}
use Rattle.pf_rot.specs.Rotation.{Rot, rotate, unrotate}
use Rattle.pf_shapes.specs.declared.fixture.Shape.{Shape}

-- a shape, the position of its centre, and its rotation
pub record PlacedShape : Type 0 where
  pub shape : Shape
  pub position : V2
  pub rotation : Rot

-- a box of these half extents, the position of its centre, and its rotation
pub record OrientedBox : Type 0 where
  pub half : V2
  pub position : V2
  pub rotation : Rot

-- a position of the world in the box's own axes, relative to its centre
unfoldable pub to_box : OrientedBox → V2 → V2
to_box b p = unrotate b.rotation (sub p b.position)

-- a position in the box's own axes, in the world
unfoldable pub to_world : OrientedBox → V2 → V2
to_world b p = add b.position (rotate b.rotation p)
