-- Bodies that stand as they stood have the contact points that they had.
use Rattle.std.proofs.Common.{◌≡◌, ℕ, zero, suc, true, false, ◌&&◌, ◌++◌, Option, Some, None, List, [], ◌∷◌, ◌<◌, length, map, refl, sym, ap, ap₂, ◌∙◌, ⊎_elim, true≢false, arith}
use Rattle.std.specs.Bool.{Decides}
use Rattle.std.specs.Prelude.{get_or, slice_get}
use Rattle.std.proofs.lemmas.Option.{slice_get_cases, slice_get_read}
use Rattle.std.proofs.lemmas.Bool.{and_parts}
use Rattle.std.proofs.lemmas.Bool.Decides.{Decides-and, Decides-like}
use Rattle.pf_shapes.specs.Fixture.{Fixture}
use Rattle.pf_shapes.specs.Body.{BodyState}
use Rattle.pf_shapes.specs.Pair.{Pair}
use Rattle.pf_shapes.specs.SameLaws.{Decides-rotation, Decides-shape, Decides-vector}
use Rattle.pf_manifold.specs.Collide.{collide}
use Rattle.pf_manifold.specs.ContactPoint.{ContactPoint}
use Rattle.pf_manifold.specs.PlacedShape.{PlacedShape}
use Rattle.pf_manifold.specs.Touches.{placed_shape, placed_shape_at, touch_of, touches, touches_between, touches_of}
use Rattle.pf_cache.specs.Manifolds.{is_unmoved, kept_touches, manifolds_of, placed_shapes, points_of_pair, are_same_shapes, same_placed_shape}
use Rattle.pf_cache.specs.Slots.{unmoved_flags}

pub Decides-placed : (a b : PlacedShape) → Decides (same_placed_shape a b) (a ≡ b)
unfolding same_placed_shape
Decides-placed a b =
    Decides-like (same_placed_shape a b) (λ e i. record {
      shape = e.0 i;
      position = e.1.0 i;
      rotation = e.1.1 i;
    })
    (λ e. (
      ap (λ (s : PlacedShape). s.shape) e,
      (ap (λ (s : PlacedShape). s.position) e, ap (λ (s : PlacedShape). s.rotation) e),
    ))
    (Decides-and _ _ (Decides-shape a.shape b.shape)
    (Decides-and _ _ (Decides-vector a.position b.position) (Decides-rotation a.rotation b.rotation)))

same_here : (o m : Option PlacedShape) → are_same_shapes o m ≡ true → o ≡ m
same_here (Some a) (Some b) e = ap Some ((Decides-placed a b).0 e)
same_here (Some a) None e = absurd (true≢false (sym e))
same_here None m e = absurd (true≢false (sym e))

-- of two bodies that stand as they stood
pub unmoved_points : (old shapes : List PlacedShape) (p : Pair)
    → (is_unmoved old shapes p.a && is_unmoved old shapes p.b) ≡ true
    → points_of_pair old p ≡ points_of_pair shapes p
unmoved_points old shapes p e =
    let both = and_parts _ _ e in
    ap₂ (touches_between p) (same_here _ _ both.0) (same_here _ _ both.1)

-- the points of the narrow phase, of two shapes that were read
pub points_here : (shapes : List PlacedShape) (p : Pair) (a b : PlacedShape) (points : List ContactPoint)
    → p.a < length shapes → p.b < length shapes → a ≡ get_or shapes p.a a → b ≡ get_or shapes p.b b
    → points ≡ collide a b → map (touch_of p) points ≡ points_of_pair shapes p
points_here shapes p a b points first second a_is b_is are =
    let one = slice_get_read shapes (length shapes) p.a a refl first a_is in
    let two = slice_get_read shapes (length shapes) p.b b refl second b_is in
    ap (map (touch_of p)) are ∙ sym (ap₂ (touches_between p) one two)

-- whether a body stands as it stood, read from the list of all bodies
no_shape : (o : Option PlacedShape) → false ≡ are_same_shapes o None
no_shape None = refl
no_shape (Some a) = refl

pub flag_at : (old shapes : List PlacedShape) (i : ℕ) → get_or (unmoved_flags old shapes) i false ≡ is_unmoved old shapes i
flag_at [] shapes i = refl
flag_at (a ∷ old) [] i = no_shape (slice_get (a ∷ old) i)
flag_at (a ∷ old) (b ∷ shapes) zero = refl
flag_at (a ∷ old) (b ∷ shapes) (suc i) = flag_at old shapes i

-- a body that stands as it stood is unmoved
pub flag_stays : (old shapes : List PlacedShape) (i : ℕ) → i < length old → slice_get old i ≡ slice_get shapes i
    → get_or (unmoved_flags old shapes) i false ≡ true
flag_stays old shapes i below same =
    flag_at old shapes i ∙ ap (are_same_shapes (slice_get old i)) (sym same)
    ∙ ⊎_elim
    (λ there. ap (λ o. are_same_shapes o o) there.2 ∙ (Decides-placed there.0 there.0).1 refl)
    (λ past. absurd (omega (arith, below, past.0)))
    (slice_get_cases old i).1

-- the shapes of the bodies, number by number
no_body : (o : Option Fixture) → None ≡ placed_shape o None
no_body None = refl
no_body (Some f) = refl

shape_at : (fixtures : List Fixture) (bodies : List BodyState) (i : ℕ)
    → slice_get (placed_shapes fixtures bodies) i ≡ placed_shape_at fixtures bodies i
shape_at [] bodies i = refl
shape_at (f ∷ fixtures) [] i = no_body (slice_get (f ∷ fixtures) i)
shape_at (f ∷ fixtures) (b ∷ bodies) zero = refl
shape_at (f ∷ fixtures) (b ∷ bodies) (suc i) = shape_at fixtures bodies i

pub points_of_bodies : (fixtures : List Fixture) (bodies : List BodyState) (p : Pair)
    → points_of_pair (placed_shapes fixtures bodies) p ≡ touches_of fixtures bodies p
unfolding touches_of
points_of_bodies fixtures bodies p =
    ap₂ (touches_between p) (shape_at fixtures bodies p.a) (shape_at fixtures bodies p.b)

-- the kept points of these pairs are the contact points of these pairs
pub kept_points : (fixtures : List Fixture) (bodies : List BodyState) (pairs : List Pair)
    → kept_touches (manifolds_of fixtures bodies pairs) ≡ touches fixtures bodies pairs
kept_points fixtures bodies [] = refl
kept_points fixtures bodies (p ∷ pairs) =
    ap₂ (λ xs ys. xs ++ ys) (points_of_bodies fixtures bodies p) (kept_points fixtures bodies pairs)
