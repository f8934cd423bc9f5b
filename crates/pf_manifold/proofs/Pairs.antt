-- The points of one pair more, for the loop over pairs.
use Rattle.std.proofs.Common.{◌≡◌, ℕ, ◌+◌, ◌<◌, Some, List, [], ◌∷◌, ◌++◌, length, take, get_or, map, sym, ap, ◌∙◌}
use Rattle.std.proofs.lemmas.List.{append-nil, take_more}
use Rattle.std.proofs.lemmas.List.Concat.{flat_map-append}
use Rattle.pf_shapes.specs.Fixture.{Fixture}
use Rattle.pf_shapes.specs.Body.{BodyState}
use Rattle.pf_shapes.specs.Pair.{Pair}
use Rattle.pf_manifold.specs.ContactPoint.{ContactPoint}
use Rattle.pf_manifold.specs.PlacedShape.{PlacedShape}
use Rattle.pf_manifold.specs.Collide.{collide}
use Rattle.pf_manifold.specs.Touches.{placed_shape_at, touches_between, touch_of, touches_of, touches}

-- the contact points of a pair of existing bodies
points_between : (fixtures : List Fixture) (bodies : List BodyState) (p : Pair) (a b : PlacedShape) (points : List ContactPoint)
    → placed_shape_at fixtures bodies p.a ≡ Some a → placed_shape_at fixtures bodies p.b ≡ Some b → points ≡ collide a b
    → touches_of fixtures bodies p ≡ map (touch_of p) points
unfolding touches_of
points_between fixtures bodies p a b points is_a is_b are =
    ap (λ o. touches_between p o (placed_shape_at fixtures bodies p.b)) is_a ∙ ap (touches_between p (Some a)) is_b ∙ ap (map (touch_of p)) (sym are)

-- p is the pair at i
pub touches_more : (fixtures : List Fixture) (bodies : List BodyState) (pairs : List Pair) (i : ℕ) (p : Pair) (a b : PlacedShape) (points : List ContactPoint)
    → i < length pairs → p ≡ get_or pairs i p → placed_shape_at fixtures bodies p.a ≡ Some a → placed_shape_at fixtures bodies p.b ≡ Some b → points ≡ collide a b
    → touches fixtures bodies (take (i + 1) pairs) ≡ touches fixtures bodies (take i pairs) ++ map (touch_of p) points
touches_more fixtures bodies pairs i p a b points lt at is_a is_b are =
    ap (touches fixtures bodies) (take_more pairs i p lt ∙ ap (λ q. take i pairs ++ q ∷ []) (sym at))
    ∙ flat_map-append (touches_of fixtures bodies) (take i pairs) (p ∷ [])
    ∙ ap (λ last. touches fixtures bodies (take i pairs) ++ last)
    (append-nil _ ∙ points_between fixtures bodies p a b points is_a is_b are)
