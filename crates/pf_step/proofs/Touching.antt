-- The contact points of a tick.
use Rattle.std.proofs.Common.{◌≡◌, ◌≤◌, List, length, refl, arith}
use Rattle.std.specs.Prelude.{All}
use Rattle.pf_shapes.specs.Body.{BodyState}
use Rattle.pf_shapes.specs.Pair.{IsPairOf}
use Rattle.pf_shapes.specs.Scene.{IsScene, Scene}
use Rattle.pf_shapes.specs.declared.scene.TheConstants.{MAX_BODIES}
use Rattle.pf_broad.specs.Pairs.{all_bounds, pairs}
use Rattle.pf_broad.proofs.Ascending.{ascending}
use Rattle.pf_broad.proofs.Within.{pairs_within}
use Rattle.pf_manifold.specs.Key.{AreTouches}
use Rattle.pf_manifold.specs.Touches.{IsTouchOf}
use Rattle.pf_manifold.proofs.KeyOrder.{touches_in_order, touches_of_bodies}
use Rattle.pf_step.specs.Step.{touches_of_scene}

module _ (s : Scene) (bodies : List BodyState) (count : length bodies ≡ length s.fixtures) where
  found : All (IsPairOf (length bodies)) (pairs (all_bounds s.fixtures bodies))
  found = pairs_within s.fixtures bodies (all_bounds s.fixtures bodies) (pairs (all_bounds s.fixtures bodies)) count refl refl

  -- they are of the scene's bodies
  pub points_of_bodies : All (IsTouchOf (length bodies)) (touches_of_scene s bodies)
  points_of_bodies =
      touches_of_bodies s.fixtures bodies (length bodies) (pairs (all_bounds s.fixtures bodies)) found

  -- and in the order of their keys
  pub points_in_order : IsScene s → AreTouches (touches_of_scene s bodies)
  points_in_order scene =
      let few : length bodies ≤ MAX_BODIES = omega (arith, count, scene.few) in
      touches_in_order s.fixtures bodies (length bodies) (pairs (all_bounds s.fixtures bodies)) few
      (ascending (all_bounds s.fixtures bodies)) found
