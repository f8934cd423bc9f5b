-- Where no pair touches, each pair has no point.
use Rattle.std.proofs.Common.{◌≡◌, ℕ, ◌+◌, ◌<◌, Some, List, [], ◌∷◌, ◌++◌, length, take, drop, get_or, map, refl, sym, ap, ◌∙◌}
use Rattle.std.proofs.lemmas.List.{take-append-drop}
use Rattle.std.proofs.lemmas.List.Concat.{flat_map-append}
use Rattle.pf_shapes.specs.Fixture.{Fixture}
use Rattle.pf_shapes.specs.Body.{BodyState}
use Rattle.pf_shapes.specs.Pair.{Pair}
use Rattle.pf_manifold.specs.ContactPoint.{ContactPoint}
use Rattle.pf_manifold.specs.PlacedShape.{PlacedShape}
use Rattle.pf_manifold.specs.Collide.{collide}
use Rattle.pf_manifold.specs.Touches.{placed_shape_at, touch_of, touches_of, touches}
use Rattle.pf_manifold.proofs.Pairs.{touches_more}

-- two lists whose concatenation is empty are empty
both_empty : {A : Type 0} (xs ys : List A) → xs ++ ys ≡ [] → (xs ≡ []) × (ys ≡ [])
both_empty [] ys e = (refl, e)
both_empty (x ∷ xs) ys e = absurd (cc)

map_empty : {A B : Type 0} (f : A → B) (xs : List A) → map f xs ≡ [] → xs ≡ []
map_empty f [] e = refl
map_empty f (x ∷ xs) e = absurd (cc)

first_empty : (fixtures : List Fixture) (bodies : List BodyState) (pairs : List Pair) (i : ℕ)
    → touches fixtures bodies pairs ≡ [] → touches fixtures bodies (take i pairs) ≡ []
first_empty fixtures bodies pairs i none =
    (both_empty (touches fixtures bodies (take i pairs)) (touches fixtures bodies (drop i pairs))
    (sym (flat_map-append (touches_of fixtures bodies) (take i pairs) (drop i pairs))
    ∙ ap (touches fixtures bodies) (take-append-drop i pairs) ∙ none)).0

pub pair_apart : (fixtures : List Fixture) (bodies : List BodyState) (pairs : List Pair) (i : ℕ) (p : Pair) (a b : PlacedShape) (points : List ContactPoint)
    → i < length pairs → p ≡ get_or pairs i p → placed_shape_at fixtures bodies p.a ≡ Some a → placed_shape_at fixtures bodies p.b ≡ Some b → points ≡ collide a b
    → touches fixtures bodies pairs ≡ [] → points ≡ []
pair_apart fixtures bodies pairs i p a b points lt at is_a is_b are none =
    map_empty (touch_of p) points
    (both_empty (touches fixtures bodies (take i pairs)) (map (touch_of p) points)
    (sym (touches_more fixtures bodies pairs i p a b points lt at is_a is_b are) ∙ first_empty fixtures bodies pairs (i + 1) none)).1
