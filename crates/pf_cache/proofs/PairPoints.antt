-- The contact points of one pair.
use Rattle.std.proofs.Common.{◌≡◌, ◌<◌, ◌≤◌, Option, Some, None, List, [], ◌∷◌, length, map, get_or, refl, ap, sym, ◌∙◌, arith}
use Rattle.std.specs.Prelude.{slice_get}
use Rattle.pf_shapes.specs.Pair.{Pair}
use Rattle.pf_manifold.specs.Collide.{collide}
use Rattle.pf_manifold.specs.ContactPoint.{ContactPoint}
use Rattle.pf_manifold.specs.PlacedShape.{PlacedShape}
use Rattle.pf_manifold.specs.Touches.{Touch, touch_of, touches_between}
use Rattle.pf_cache.specs.Manifolds.{points_of_pair}

-- each is of the pair, as it is made of its contact point
again : (p : Pair) (cs : List ContactPoint) → map (λ t. touch_of p t.point) (map (touch_of p) cs) ≡ map (touch_of p) cs
again p [] = refl
again p (x ∷ cs) = ap (λ l. touch_of p x ∷ l) (again p cs)

between : (p : Pair) (o m : Option PlacedShape) → map (λ t. touch_of p t.point) (touches_between p o m) ≡ touches_between p o m
between p (Some a) (Some b) = again p (collide a b)
between p (Some a) None = refl
between p None m = refl

pub of_pair : (shapes : List PlacedShape) (p : Pair) (ts : List Touch) → ts ≡ points_of_pair shapes p → map (λ t. touch_of p t.point) ts ≡ ts
of_pair shapes p ts e =
    ap (map (λ t. touch_of p t.point)) e ∙ between p (slice_get shapes p.a) (slice_get shapes p.b) ∙ sym e

-- the only one
pub one_point : (shapes : List PlacedShape) (p : Pair) (ts : List Touch) (t : Touch) → ts ≡ points_of_pair shapes p
    → length ts < 2 → 1 ≤ length ts → t ≡ get_or ts 0 t → touch_of p t.point ∷ [] ≡ ts
one_point shapes p [] t e below above is = absurd (omega (arith, above))
one_point shapes p (x ∷ []) t e below above is = ap (λ u. touch_of p u.point ∷ []) is ∙ of_pair shapes p (x ∷ []) e
one_point shapes p (x ∷ y ∷ ts) t e below above is = absurd (omega (arith, below))

-- the only two
pub two_points : (shapes : List PlacedShape) (p : Pair) (ts : List Touch) (t u : Touch) → ts ≡ points_of_pair shapes p
    → length ts < 3 → 2 ≤ length ts → t ≡ get_or ts 0 t → u ≡ get_or ts 1 u → touch_of p t.point ∷ touch_of p u.point ∷ [] ≡ ts
two_points shapes p [] t u e below above first second = absurd (omega (arith, above))
two_points shapes p (x ∷ []) t u e below above first second = absurd (omega (arith, above))
two_points shapes p (x ∷ y ∷ []) t u e below above first second =
    (λ i. touch_of p (first i).point ∷ touch_of p (second i).point ∷ []) ∙ of_pair shapes p (x ∷ y ∷ []) e
two_points shapes p (x ∷ y ∷ z ∷ ts) t u e below above first second = absurd (omega (arith, below))
