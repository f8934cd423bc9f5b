-- The contact points that a collider computed, in the order of their pairs.
use Rattle.std.specs.Prelude.{◌≡◌, ◌≤◌, ℕ, List, drop, length}
use Rattle.std.specs.List.{flat_map}
use Rattle.pf_shapes.specs.Pair.{Pair}
use Rattle.pf_manifold.specs.PlacedShape.{PlacedShape}
use Rattle.pf_manifold.specs.Touches.{Touch}
use Rattle.pf_cache.specs.Manifolds.{points_of_pair}

-- the contact points from `start` on are those of these pairs
pub record AreNextPoints
    (shapes : List PlacedShape) (touches : List Touch) (start : ℕ) (pairs : List Pair)
    : Type 0 where
  pub within : start ≤ length touches
  pub points : drop start touches ≡ flat_map (points_of_pair shapes) pairs
