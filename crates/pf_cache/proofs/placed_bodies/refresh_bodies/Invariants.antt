use Rattle.std.proofs.Common.{◌≡◌, ◌<◌, ℕ, false, get_or, length}
use Rattle.std.specs.Prelude.{drop}
use Rattle.pf_shapes.specs.Bounds.{Bounds}
use Rattle.pf_broad.specs.Pairs.{all_bounds}
use Rattle.pf_broad.specs.Partners.{has_body}
use Rattle.pf_manifold.specs.PlacedShape.{PlacedShape}
use Rattle.pf_cache.specs.Manifolds.{placed_shapes}
use Rattle.pf_cache.specs.PlacedBodies.{AreBoundsOf}
use Rattle.pf_cache.proofs.Standing.{IsFlagged, IsSameAt}
use Rattle.pf_cache.proofs.placed_bodies.refresh_bodies.Given as goal

abbrev pub invariant-loop-number : goal.invariant-loop-number
invariant-loop-number l = record {
  shapes : (k : ℕ) → k < length l.shapes → has_body (drop l.number-index l.dirty) k ≡ false
      → IsSameAt l.shapes (placed_shapes l.fixtures l.bodies) k;
  bounds : (k : ℕ) → k < length l.bounds → has_body (drop l.number-index l.dirty) k ≡ false
      → IsSameAt l.bounds (all_bounds l.fixtures l.bodies) k;
  each : (k : ℕ) → k < length l.shapes → (s : PlacedShape) (b : Bounds)
      → AreBoundsOf (get_or l.shapes k s) (get_or l.bounds k b);
  unmoved : (k : ℕ) → k < length l.initial.shapes
      → IsFlagged l.unmoved l.shapes l.initial.shapes (placed_shapes l.fixtures l.bodies) k;
}
