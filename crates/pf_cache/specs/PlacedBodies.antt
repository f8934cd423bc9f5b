-- The shapes of bodies as they stood, and the bounds that the broad phase needs of them.
use Rattle.std.specs.Prelude.{◌≡◌, ◌<◌, ℕ, false, List, [], length, slice_get, All}
use Rattle.std.specs.List.{zip}
use Rattle.pf_shapes.specs.Fixture.{Fixture}
use Rattle.pf_shapes.specs.Body.{BodyState}
use Rattle.pf_shapes.specs.Bounds.{Bounds, IsOrdered, shape_bounds}
use Rattle.pf_broad.specs.Pairs.{all_bounds}
use Rattle.pf_broad.specs.Partners.{has_body}
use Rattle.pf_manifold.specs.PlacedShape.{PlacedShape}
use Rattle.pf_cache.specs.Manifolds.{Manifolds, placed_shapes}

-- the shapes of all bodies at their positions and rotations, and their bounds
pub record PlacedBodies : Type 0 where
  pub shapes : List PlacedShape
  pub bounds : List Bounds

abbrev pub none_placed : PlacedBodies
none_placed = record { shapes = []; bounds = [] }

-- all bodies of a scene as they stand
abbrev pub placed_bodies : List Fixture → List BodyState → PlacedBodies
placed_bodies fixtures bodies =
    record { shapes = placed_shapes fixtures bodies; bounds = all_bounds fixtures bodies }

-- the bodies whose contact points are kept, as they stood
abbrev pub bodies_of : Manifolds → PlacedBodies
bodies_of m = record { shapes = m.shapes; bounds = m.bounds }

-- these are the bounds of this shape at its position and rotation, of a static or of a dynamic body
pub record AreBoundsOf (s : PlacedShape) (b : Bounds) : Type 0 where
  pub value : b ≡ shape_bounds s.shape s.position s.rotation b.is_static
  pub ordered : IsOrdered b

-- each shape has its bounds
pub record HaveBounds (shapes : List PlacedShape) (bounds : List Bounds) : Type 0 where
  pub as_many : length bounds ≡ length shapes
  pub each : All (λ both. AreBoundsOf both.0 both.1) (zip shapes bounds)

-- where as many bodies are placed: each of these that is not listed stands as it is placed, and has
-- the same bounds
abbrev pub HaveStayed : List ℕ → PlacedBodies → List Fixture → List BodyState → Type 0
HaveStayed dirty placed fixtures bodies =
    length placed.shapes ≡ length bodies → (k : ℕ) → k < length bodies → has_body dirty k ≡ false
    → (slice_get placed.shapes k ≡ slice_get (placed_shapes fixtures bodies) k)
    × (slice_get placed.bounds k ≡ slice_get (all_bounds fixtures bodies) k)
