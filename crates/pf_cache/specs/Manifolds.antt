-- Contact points that are kept from tick to tick, as a b2Contact of Box2D 2.x keeps its manifold.
-- The points of two bodies follow from their shapes, positions and rotations, so those of two
-- bodies that have not moved are reused.
use Rattle.std.specs.Prelude.{ℕ, Bool, false, not, ◌&&◌, ◌==◌, Option, Some, List, [], map, count_by, slice_get}
use Rattle.std.specs.List.{flat_map, list_any, zip}
use Rattle.pf_shapes.specs.Fixture.{Fixture}
use Rattle.pf_shapes.specs.Body.{BodyState}
use Rattle.pf_shapes.specs.Bounds.{Bounds}
use Rattle.pf_shapes.specs.Pair.{Pair}
use Rattle.pf_shapes.specs.Same.{same_rotation, same_shape, same_vector}
use Rattle.pf_broad.specs.Pairs.{all_bounds}
use Rattle.pf_manifold.specs.PlacedShape.{PlacedShape}
use Rattle.pf_manifold.specs.Touches.{Touch, touches_between}

-- the shapes of all bodies at their positions and rotations, with their bounds, and the pairs whose
-- contact points are kept
pub record Manifolds : Type 0 where
  pub shapes : List PlacedShape
  pub bounds : List Bounds
  pub pairs : List Pair

-- what the narrow phase of a tick found: the contact points of its pairs, and how many of the pairs
-- could not reuse kept points
pub record Collisions : Type 0 where
  pub manifolds : Manifolds
  pub computed : ℕ

abbrev pub no_manifolds : Manifolds
no_manifolds = record { shapes = []; bounds = []; pairs = [] }

-- the shape of a body at its position and rotation
abbrev pub shape_of_body : Fixture → BodyState → PlacedShape
shape_of_body f b = record { shape = f.shape; position = b.position; rotation = b.rotation }

-- the shapes of all bodies
abbrev pub placed_shapes : List Fixture → List BodyState → List PlacedShape
placed_shapes fixtures bodies = map (λ body. shape_of_body body.0 body.1) (zip fixtures bodies)

-- what is kept of these pairs: their points, as the bodies stand
abbrev pub manifolds_of : List Fixture → List BodyState → List Pair → Manifolds
manifolds_of fixtures bodies pairs =
    record {
      shapes = placed_shapes fixtures bodies;
      bounds = all_bounds fixtures bodies;
      pairs = pairs;
    }

-- the contact points of two of these bodies
abbrev pub points_of_pair : List PlacedShape → Pair → List Touch
points_of_pair shapes p = touches_between p (slice_get shapes p.a) (slice_get shapes p.b)

-- the contact points that are kept, pair by pair
abbrev pub kept_touches : Manifolds → List Touch
kept_touches m = flat_map (points_of_pair m.shapes) m.pairs

-- the same shape at the same position and rotation
unfoldable pub same_placed_shape : PlacedShape → PlacedShape → Bool
same_placed_shape a b =
    same_shape a.shape b.shape
    && (same_vector a.position b.position && same_rotation a.rotation b.rotation)

abbrev pub are_same_shapes : Option PlacedShape → Option PlacedShape → Bool
are_same_shapes (Some a) (Some b) = same_placed_shape a b
are_same_shapes a b = false

-- the body with this number has the same shape, position and rotation in both lists
abbrev pub is_unmoved : List PlacedShape → List PlacedShape → ℕ → Bool
is_unmoved old shapes i = are_same_shapes (slice_get old i) (slice_get shapes i)

-- a list of pairs has this one
abbrev pub lists_pair : List Pair → Pair → Bool
lists_pair pairs p = list_any (λ q. (q.a == p.a) && (q.b == p.b)) pairs

-- the points of a pair are kept, and can be reused: both bodies are unmoved
abbrev pub is_reusable : Manifolds → List PlacedShape → Pair → Bool
is_reusable m shapes p =
    lists_pair m.pairs p && (is_unmoved m.shapes shapes p.a && is_unmoved m.shapes shapes p.b)

-- how many of these pairs cannot reuse kept points
abbrev pub computed_count : Manifolds → List PlacedShape → List Pair → ℕ
computed_count m shapes pairs = count_by (λ p. not (is_reusable m shapes p)) pairs
